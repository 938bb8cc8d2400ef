-- What lanes answered to their own lines of a window, and which answer is the team's.
use Rattle.std.proofs.Common.{◌≡◌, ◌∙◌, sym, ap, subst, refl, ◌+◌, ◌*◌, ◌/◌, ◌||◌, ℕ, ℤ, Bool, true, false, cond, nat_lt, List, [], ◌∷◌, ◌++◌, length, map, append_assoc, append-nil, Option, Some, Ok, Err, arith}
use Rattle.std.specs.Prelude.{slice_set, OnOk, IfErr, IsErr, IsErrAnd}
use Rattle.std.proofs.lemmas.List.{length-map}
use Rattle.outside.specs.Outside.{Files}
use Rattle.outside.specs.declared.folder.Folder.{Ghosts}
use Rattle.catalog.specs.Drivers.{Dataset}
use Rattle.band_blocks.specs.declared.fault.LoadFault.{LoadFault}
use Rattle.band_blocks.specs.Open.{IsUnchanged}
use Rattle.nearest_window.specs.Lanes.{LaneView}
use Rattle.nearest_window.specs.Right.{TellsChangeIn}
use Rattle.nearest_window.specs.declared.window.Window.{Window}
use Rattle.lane_teams.specs.declared.cutting.Job.{Job}
use Rattle.lane_teams.specs.declared.turns.Turn.{Turn}
use Rattle.lane_teams.specs.Parts.{part_of, readers_of, AreOfWindow}
use Rattle.lane_teams.specs.Refusals.{Answer, first_of, first_refusal, HaveAnswered, IsFirstOf, IsLaneAnswer}
use Rattle.lane_teams.specs.Turns.{HaveRead}
use Rattle.lane_teams.proofs.Windows.{whole_window}

-- what a `?` hands on
pub err_is : (r : Answer) (f : LoadFault) → IsErr r × IsErrAnd r (λ e. e ≡ f) → r ≡ Err f
err_is (Ok x) f h = absurd h.1
err_is (Err e) f h = ap Err h.1

-- no more than one lane reads for a team of one
pub one_reader : (lines samples fewest : ℕ) → readers_of lines samples fewest 1 ≡ 1
one_reader lines samples fewest = same (nat_lt lines 1 || nat_lt (samples / 1) fewest) 1
  where
    same : (b : Bool) (n : ℕ) → cond b n n ≡ n
    same true n = refl
    same false n = refl

-- where more than one lane reads, all do
pub several_readers : (lines samples fewest n : ℕ) → (readers_of lines samples fewest n ≡ 1 → ⊥) → readers_of lines samples fewest n ≡ n
several_readers lines samples fewest n several = chosen (nat_lt lines n || nat_lt (samples / n) fewest) 1 several
  where
    chosen : (b : Bool) (one : ℕ) → (cond b one n ≡ one → ⊥) → cond b one n ≡ n
    chosen true one several = absurd (several refl)
    chosen false one several = refl

-- the answers of one row of lanes, and those of the row behind it
pub both_answered : (told : Option Files) (cat : List Dataset) (window : Window) (n k : ℕ) (xs ys : List Answer) (p q : List ℤ)
    → HaveAnswered told cat window n k xs p → HaveAnswered told cat window n (k + length xs) ys q → HaveAnswered told cat window n k (xs ++ ys) (p ++ q)
both_answered told cat window n k [] ys p q front back =
    let here : k + 0 ≡ k = omega arith in
    subst (λ (zs : List ℤ). HaveAnswered told cat window n k ys (zs ++ q)) (sym front) (subst (λ i. HaveAnswered told cat window n i ys q) here back)
both_answered told cat window n k (x ∷ xs) ys p q front back =
    let end : k + length (x ∷ xs) ≡ k + 1 + length xs = omega arith in
    let behind = both_answered told cat window n (k + 1) xs ys front.1 q front.4 (subst (λ i. HaveAnswered told cat window n i ys q) end back) in
    (front.0, front.1 ++ q, ap (λ (zs : List ℤ). zs ++ q) front.2 ∙ append_assoc front.0 front.1 q, front.3, behind)

-- the answer of one lane
pub lane_answered : (told : Option Files) (cat : List Dataset) (window : Window) (n k : ℕ) (samples : List ℤ) (answer : Answer)
    → IsLaneAnswer told cat (part_of window n k (k + 1)) samples answer → HaveAnswered told cat window n k (answer ∷ []) samples
lane_answered told cat window n k samples answer is = (samples, [], sym (append-nil samples), is, refl)

-- a lane that reads alone has read the whole window
pub alone_answered : (told : Option Files) (cat : List Dataset) (window : Window) (samples : List ℤ) (answer : Answer)
    → length samples ≡ window.rect.w * window.rect.h → OnOk answer (AreOfWindow told cat window samples) → IfErr answer (TellsChangeIn cat)
    → ((m : Files) → told ≡ Some m → IfErr answer IsUnchanged) → IsFirstOf told cat window 1 samples answer
alone_answered told cat window samples answer size shown changed never = record {
  answers = answer ∷ [];
  count = refl;
  each =
      lane_answered told cat window 1 0 samples answer
      (subst (λ (part : Window). IsLaneAnswer told cat part samples answer) (sym (whole_window window 1 (omega arith)))
      (record { size = size; shown = shown; changed = changed; never = never }));
  first = lone answer;
}
  where
    lone : (a : Answer) → a ≡ first_of a (Ok tt)
    lone (Ok x) = refl
    lone (Err e) = refl

module _ {F File Draft : Type 0} where
  abbrev pub answer_of : Turn F File Draft → Answer
  answer_of t = t.answer

  -- the one turn of a row of one
  pub one_turn : (turns : List (Turn F File Draft)) (turn : Turn F File Draft) → length turns ≡ 1 → slice_set turns 0 turn ≡ turn ∷ []
  one_turn [] turn one = absurd (omega arith)
  one_turn (t ∷ []) turn one = refl
  one_turn (t ∷ u ∷ us) turn one = absurd (omega arith)

module _ {F File Draft : Type 0} (calls : Ghosts F File Draft) (told : Option Files) (cat : List Dataset) (job : Job) where
  -- all lanes of a team have read, and their turns are collected
  pub team_answered : (were lanes : List (LaneView File)) (turns all : List (Turn F File Draft)) (out : List ℤ) (answer : Answer)
      → job.count ≡ length were → HaveRead calls told cat job 0 were lanes turns out
      → all ≡ turns → answer ≡ first_refusal (map answer_of all)
      → IsFirstOf told cat job.window job.count out answer
  team_answered were lanes turns all out answer count read same first = record {
    answers = map answer_of turns;
    count = length-map turns answer_of ∙ read.turns_count ∙ sym count;
    each = read.answered;
    first = first ∙ ap (λ (ts : List (Turn F File Draft)). first_refusal (map answer_of ts)) same;
  }
