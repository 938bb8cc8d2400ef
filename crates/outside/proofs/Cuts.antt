-- Texts that are cut at the last place of a byte.
use Rattle.std.proofs.Common.{◌≡◌, ◌≢◌, ℕ, suc, ◌+◌, ◌-◌, ◌<◌, ◌≤◌, Bool, true, false, cond, List, [], ◌∷◌, ◌++◌, length, get_or, take, drop, refl, ap, sym, subst, ◌∙◌, ◌⊎◌, inl, inr, arith, length-append, Bor, ne_eqb, eq-eqb, eqb-true, take-append-drop, MatchOption, Option, Some, None, option_map, append_assoc, IsUtf8, IsCharBoundary}
use Rattle.std.specs.Prelude.{◌==◌}
use Rattle.std.specs.Option.{unwrap_or}
use Rattle.std.specs.Str.Pattern.{RFindsChar}
use Rattle.std.proofs.lemmas.List.{get_or_at}
use Rattle.std.proofs.lemmas.Str.{IsCharBoundary-after_ascii, IsCharBoundary-end}
use Rattle.std.proofs.lemmas.Str.Pattern.{NoCharPasses-char, drop_at_char}
use Rattle.outside.specs.Names.{cut_behind, cut_last, last_part, ending_of}
use Rattle.outside.proofs.Normal.{Free}

pub free-from : (c : ℕ) (bs : List ℕ) → ((i : ℕ) → i < length bs → get_or bs i 0 ≢ c) → Free c bs
free-from c [] h = tt
free-from c (b ∷ bs) h = (ne_eqb b c (h 0 (omega arith)), free-from c bs (λ i l. h (suc i) (omega arith)))

pub free-left : (c : ℕ) (xs ys : List ℕ) → Free c (xs ++ ys) → Free c xs
free-left c [] ys f = tt
free-left c (x ∷ xs) ys f = (f.0, free-left c xs ys f.1)

pub free-right : (c : ℕ) (xs ys : List ℕ) → Free c (xs ++ ys) → Free c ys
free-right c [] ys f = f
free-right c (x ∷ xs) ys f = free-right c xs ys f.1

pub free-append : (c : ℕ) (xs ys : List ℕ) → Free c xs → Free c ys → Free c (xs ++ ys)
free-append c [] ys f g = g
free-append c (x ∷ xs) ys f g = (f.0, free-append c xs ys f.1 g)

cut_last-none : (c : ℕ) (bs : List ℕ) → Free c bs → cut_last c bs ≡ None
cut_last-none c [] f = refl
cut_last-none c (b ∷ bs) f = ap (cut_behind c b bs) (cut_last-none c bs f.1) ∙ ap (λ r. cond r (Some ([], bs)) None) f.0

cut_last-at : (c : ℕ) (front back : List ℕ) → Free c back → cut_last c (front ++ c ∷ back) ≡ Some (front, back)
cut_last-at c [] back f = ap (cut_behind c c back) (cut_last-none c back f) ∙ ap (λ r. cond r (Some ([], back)) None) (eq-eqb c c refl)
cut_last-at c (b ∷ bs) back f = ap (cut_behind c b (bs ++ c ∷ back)) (cut_last-at c bs back f)

-- the text is cut at its last byte c
pub record IsCut (c : ℕ) (text front back : List ℕ) : Type 0 where
  pub is : text ≡ front ++ c ∷ back
  pub free : Free c back

abbrev IsCutOrFree : ℕ → List ℕ → Option (List ℕ × List ℕ) → Type 0
IsCutOrFree c text r = MatchOption r (Free c text) (λ p. IsCut c text p.0 p.1)

cut-new : (c b : ℕ) (bs : List ℕ) (t : Bool) → (b == c) ≡ t → Free c bs → IsCutOrFree c (b ∷ bs) (cond t (Some ([], bs)) None)
cut-new c b bs true e f = record { is = ap (λ x. x ∷ bs) (eqb-true b c e); free = f }
cut-new c b bs false e f = (e, f)

cut-behind : (c b : ℕ) (bs : List ℕ) (r : Option (List ℕ × List ℕ)) → IsCutOrFree c bs r → IsCutOrFree c (b ∷ bs) (cut_behind c b bs r)
cut-behind c b bs (Some p) h = record { is = ap (λ x. b ∷ x) h.is; free = h.free }
cut-behind c b bs None h = cut-new c b bs (b == c) refl h

pub cut-is : (c : ℕ) (text : List ℕ) → IsCutOrFree c text (cut_last c text)
cut-is c [] = tt
cut-is c (b ∷ bs) = cut-behind c b bs (cut_last c bs) (cut-is c bs)

-- takes the clause of `rsplit_once` at an ASCII character
pub cut_last-split : (c : ℕ) (text : List ℕ) (r : Option (Bor (List ℕ) × Bor (List ℕ)))
    → MatchOption r (RFindsChar c text None) (λ x. (i : ℕ) × (j : ℕ) × RFindsChar c text (Some (i, j)) × (x.0.now ≡ take i text) × (x.1.now ≡ drop j text) × (i ≤ j) × (length x.0.now ≡ i) × (length x.1.now + j ≡ length text))
    → c < 128 → option_map (λ x. (x.0.now, x.1.now)) r ≡ cut_last c text
cut_last-split c text None h low =
    sym (cut_last-none c text (free-from c text (λ k l. NoCharPasses-char c text k h low l)))
cut_last-split c text (Some x) h low =
    let i = h.0 in
    let j = h.1 in
    let whole : text ≡ take i text ++ c ∷ drop j text = sym (take-append-drop i text) ∙ ap (λ t. take i text ++ t) (drop_at_char c text i j h.2.1 low) in
    let free : Free c (drop j text) = free-from c (drop j text) (λ k l. NoCharPasses-char c (drop j text) k h.2.0 low l) in
    (λ t. Some (h.3 t, h.4 t)) ∙ sym (ap (cut_last c) whole ∙ cut_last-at c (take i text) (drop j text) free)

-- what stands before the last part ends with a slash, if it isn't empty
abbrev pub IsFront : List ℕ → Type 0
IsFront front = (front ≡ []) ⊎ ((folder : List ℕ) × (front ≡ folder ++ 47 ∷ []))

pub record LastPart (name last : List ℕ) : Type 0 where
  pub front : List ℕ
  pub is : name ≡ front ++ last
  pub free : Free 47 last
  pub front_is : IsFront front

last_part-cut : (name : List ℕ) (r : Option (List ℕ × List ℕ)) → IsCutOrFree 47 name r → LastPart name (unwrap_or (option_map (λ p. p.1) r) name)
last_part-cut name None h = record { front = []; is = refl; free = h; front_is = inl refl }
last_part-cut name (Some p) h = record { front = p.0 ++ 47 ∷ []; is = h.is ∙ sym (append_assoc p.0 (47 ∷ []) p.1); free = h.free; front_is = inr (p.0, refl) }

pub last_part-is : (name : List ℕ) → LastPart name (last_part name)
unfolding last_part
last_part-is name = last_part-cut name (cut_last 47 name) (cut-is 47 name)

-- the name's front, its last part's stem, a point, and its ending
pub record Ending (name ending : List ℕ) : Type 0 where
  pub front : List ℕ
  pub stem : List ℕ
  pub is : name ≡ front ++ (stem ++ 46 ∷ ending)
  pub free : Free 47 (stem ++ 46 ∷ ending)
  pub front_is : IsFront front

ending-cut : (name last ending : List ℕ) (r : Option (List ℕ × List ℕ)) → IsCutOrFree 46 last r → option_map (λ p. p.1) r ≡ Some ending → LastPart name last → Ending name ending
ending-cut name last ending None h e l = absurd cc
ending-cut name last ending (Some p) h e l =
    let same : p.1 ≡ ending = cc in
    let whole : last ≡ p.0 ++ 46 ∷ ending = h.is ∙ ap (λ x. p.0 ++ 46 ∷ x) same in
    record { front = l.front; stem = p.0; is = l.is ∙ ap (λ x. l.front ++ x) whole; free = subst (Free 47) whole l.free; front_is = l.front_is }

pub ending-is : (name ending : List ℕ) → ending_of name ≡ Some ending → Ending name ending
unfolding ending_of
ending-is name ending e = ending-cut name (last_part name) ending (cut_last 46 (last_part name)) (cut-is 46 (last_part name)) e (last_part-is name)

-- a name may be cut before its ending
pub record Cuttable (name ending : List ℕ) : Type 0 where
  pub within : length ending ≤ length name
  pub at : IsCharBoundary name (length name - length ending)

pub cuttable-behind : (name front back : List ℕ) → IsUtf8 name → name ≡ front ++ 46 ∷ back → Cuttable name back
cuttable-behind name front back u is =
    let long : length name ≡ length front + suc (length back) = ap length is ∙ length-append front (46 ∷ back) in
    let at : length front + 1 ≡ length name - length back = omega arith in
    let here : get_or name (length front) 0 ≡ 46 = ap (λ (t : List ℕ). get_or t (length front) 0) is ∙ get_or_at front 46 back 0 (length front) refl in
    record { within = omega arith; at = subst (IsCharBoundary name) at (IsCharBoundary-after_ascii name (length front) u (omega arith) (omega arith)) }

cuttable-or : (name : List ℕ) (r : Option (List ℕ)) → ending_of name ≡ r → IsUtf8 name → Cuttable name (unwrap_or r [])
cuttable-or name None e u = record { within = omega arith; at = subst (IsCharBoundary name) {x = length name} {y = length name - 0} (omega arith) (IsCharBoundary-end name) }
cuttable-or name (Some ending) e u =
    let w = ending-is name ending e in
    cuttable-behind name (w.front ++ w.stem) ending u (w.is ∙ sym (append_assoc w.front w.stem (46 ∷ ending)))

pub cuttable : (name : List ℕ) → IsUtf8 name → Cuttable name (unwrap_or (ending_of name) [])
cuttable name u = cuttable-or name (ending_of name) refl u

-- what is behind the reference that is found, or behind another
pub unwrap-now : (r : Option (Bor (List ℕ))) (other : Bor (List ℕ)) → (unwrap_or r other).now ≡ unwrap_or (option_map (λ p. p.now) r) other.now
unwrap-now None other = refl
unwrap-now (Some p) other = refl
