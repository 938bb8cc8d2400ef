-- The first refusal of several lanes, and what holds of views.
use Rattle.std.proofs.Common.{◌≡◌, ◌∙◌, refl, subst, ◌≤◌, ℕ, zero, suc, List, [], ◌∷◌, ◌++◌, map, Option, Result, Ok, Err, inl, inr, ◌⊎◌, arith}
use Rattle.std.specs.Prelude.{OnOk}
use Rattle.std.specs.List.{All}
use Rattle.std.proofs.lemmas.List.{take_at, drop_at}
use Rattle.std.proofs.lemmas.List.Elements.{All-head, All-tail, All-take, All-drop}
use Rattle.std.proofs.Common.{ap, length, take, drop}
use Rattle.std.proofs.Math.Seq.{take-append_seam}
use Rattle.outside.specs.Causes.{Rose}
use Rattle.outside.specs.Outside.{Files, IsView}
use Rattle.catalog.specs.Drivers.{Dataset}
use Rattle.band_blocks.specs.declared.fault.LoadFault.{LoadFault}
use Rattle.lane_teams.specs.declared.turns.Turn.{Turn}
use Rattle.lane_teams.specs.Refusals.{first_of, first_refusal}
use Rattle.lane_teams.specs.Turns.{IsTurn, IsDone}

pub first_failed : (r s : Result (Unit {0}) LoadFault) (e : LoadFault) → first_of r s ≡ Err e → (r ≡ Err e) ⊎ (s ≡ Err e)
first_failed (Ok x) s e h = inr h
first_failed (Err d) s e h = inl h

pub rose_on : (a b c : ℕ) → a ≤ b → Rose b c → Rose a c
rose_on a b c h r = omega arith

pub rose_then : (a b c : ℕ) → Rose a b → b ≤ c → Rose a c
rose_then a b c r h = omega arith

pub all_front : {X : Type 0} (P : X → Type 0) (xs ys : List X) → All P (xs ++ ys) → All P xs
all_front P xs ys h = subst (All P) (take_at xs ys (length xs) refl) (All-take P (length xs) (xs ++ ys) h)

pub all_back : {X : Type 0} (P : X → Type 0) (xs ys : List X) → All P (xs ++ ys) → All P ys
all_back P xs ys h = subst (All P) (drop_at xs ys (length xs) refl) (All-drop P (length xs) (xs ++ ys) h)

pub ok_given : (r : Result (Unit {0}) LoadFault) (P : Type 0) → (r ≡ Ok tt → P) → OnOk r P
ok_given (Ok x) P f = f refl
ok_given (Err e) P f = tt

-- what follows from what holds where a call answers Ok
pub on_ok : (r : Result (Unit {0}) LoadFault) (P Q : Type 0) → (P → Q) → OnOk r P → OnOk r Q
on_ok (Ok x) P Q f h = f h
on_ok (Err e) P Q f h = h

pub ok_then : (r : Result (Unit {0}) LoadFault) (P : Type 0) → r ≡ Ok tt → OnOk r P → P
ok_then r P e h = subst (λ r. OnOk r P) e h

first_keeps_both : (P : Result (Unit {0}) LoadFault → Type 0) (r s : Result (Unit {0}) LoadFault) → P r → P s → P (first_of r s)
first_keeps_both P (Ok x) s p q = q
first_keeps_both P (Err e) s p q = p

first_done : (r s : Result (Unit {0}) LoadFault) → first_of r s ≡ Ok tt → (r ≡ Ok tt) × (s ≡ Ok tt)
first_done (Ok x) s h = (refl, h)
first_done (Err e) s h = cc

module _ {F File Draft : Type 0} where
  pub first_keeps : (P : Result (Unit {0}) LoadFault → Type 0) → P (Ok tt) → (turns : List (Turn F File Draft)) → All (λ t. P t.answer) turns → P (first_refusal (map (λ t. t.answer) turns))
  first_keeps P p [] all = p
  first_keeps P p (t ∷ ts) all = first_keeps_both P t.answer (first_refusal (map (λ t. t.answer) ts)) (All-head (λ (t : Turn F File Draft). P t.answer) t ts all) (first_keeps P p ts (All-tail (λ (t : Turn F File Draft). P t.answer) t ts all))

  -- where there is no refusal, no lane refused
  pub all_done : (turns : List (Turn F File Draft)) → first_refusal (map (λ t. t.answer) turns) ≡ Ok tt → All IsDone turns
  all_done [] h = λ k d less. absurd (omega arith)
  all_done (t ∷ ts) h = let both = first_done t.answer (first_refusal (map (λ t. t.answer) ts)) h in cons t ts both.0 (all_done ts both.1)
    where
      cons : (t : Turn F File Draft) (ts : List (Turn F File Draft)) → IsDone t → All IsDone ts → All IsDone (t ∷ ts)
      cons t ts p q zero d less = p
      cons t ts p q (suc k) d less = q k d (omega arith)

  -- the turn that stands before the others
  pub turn_at : (P : Turn F File Draft → Type 0) (all front rest : List (Turn F File Draft)) (t : Turn F File Draft) → all ≡ (front ++ t ∷ []) ++ rest → All P all → P t
  turn_at P all front rest t e h = All-head P t [] (all_back P front (t ∷ []) (all_front P (front ++ t ∷ []) rest (subst (All P) e h)))

  pub turns_behind : (P : Turn F File Draft → Type 0) (all front rest : List (Turn F File Draft)) → all ≡ front ++ rest → All P all → All P rest
  turns_behind P all front rest e h = all_back P front rest (subst (All P) e h)

-- a new view is a turn
pub fresh_turn : (told names : Option Files) (cat : List Dataset) (faults reads writes : ℕ) → IsView told names faults reads writes → IsTurn told cat names faults writes (Ok tt)
fresh_turn told names cat faults reads writes view = record { same = view.same; unwritten = view.no_writes; failed = λ e. (cc); changed = tt; never = λ m e. tt }

-- what a slice of all of a list holds, put back into the list
pub put_back : {X : Type 0} (n : ℕ) (xs ys : List X) → n ≡ length xs → take n (xs ++ drop (length xs) ys) ≡ xs
put_back n xs ys long = ap (λ k. take k (xs ++ drop (length xs) ys)) long ∙ take-append_seam xs (drop (length xs) ys)
