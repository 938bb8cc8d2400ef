-- The order in which names came.
use Rattle.std.proofs.Common.{◌≡◌, ℕ, ◌+◌, ◌<◌, inl, inr, Bool, true, false, ◌||◌, List, [], ◌∷◌, ◌++◌, length, take, get_or, refl, ap, sym, ◌∙◌, Contains, arith}
use Rattle.std.specs.Prelude.{if◌then◌else◌}
use Rattle.std.specs.Str.{bytes_eq}
use Rattle.std.proofs.lemmas.List.{take_more}
use Rattle.std.proofs.lemmas.List.Elements.{Contains-append_cases, Contains-append_left, Contains-append_right, Contains-push_cases}
use Rattle.std.proofs.lemmas.Slice.Eq.{bytes_eq-Decides}
use Rattle.lists_and_answers.specs.Lists.{is_among, with_name}
use Rattle.outside.specs.Memory.{names_with}
use Rattle.outside.specs.declared.memory.Stored.{Stored}

or_right : (a b : Bool) → b ≡ true → (a || b) ≡ true
or_right true b e = refl
or_right false b e = e

or_left : (a b : Bool) → a ≡ true → (a || b) ≡ true
or_left true b e = refl
or_left false b e = absurd cc

or_not : (a b : Bool) → a ≡ false → b ≡ false → (a || b) ≡ false
or_not true b e f = absurd cc
or_not false b e f = f

differs : (r : Bool) → (r ≡ true → ⊥) → r ≡ false
differs true h = absurd (h refl)
differs false h = refl

-- a name that a list has is among its names
pub is_among-there : (names : List (List ℕ)) (name : List ℕ) → Contains names name → is_among names name ≡ true
is_among-there [] name has = absurd (omega (arith, has.1))
is_among-there (n ∷ ns) name has = elim (Contains-append_cases (n ∷ []) ns name has) [
  | inl first ↦
      elim (Contains-push_cases [] n name first) [
        | inl none ↦ absurd (omega (arith, none.1))
        | inr same ↦ or_left (bytes_eq n name) (is_among ns name) ((bytes_eq-Decides n name).1 same)
      ]
  | inr later ↦ or_right (bytes_eq n name) (is_among ns name) (is_among-there ns name later)
]

-- a name that a list lacks isn't
pub is_among-not : (names : List (List ℕ)) (name : List ℕ) → (Contains names name → ⊥) → is_among names name ≡ false
is_among-not [] name lacks = refl
is_among-not (n ∷ ns) name lacks =
    let other : bytes_eq n name ≡ false = differs (bytes_eq n name) (λ e. lacks (Contains-append_left (n ∷ []) ns name (first n name ((bytes_eq-Decides n name).0 e)))) in
    or_not (bytes_eq n name) (is_among ns name) other (is_among-not ns name (λ later. lacks (Contains-append_right (n ∷ []) ns name later)))
  where
    first : (n name : List ℕ) → n ≡ name → Contains (n ∷ []) name
    first n name same = (0, omega arith, same)

pub with_name-there : (names : List (List ℕ)) (name : List ℕ) → Contains names name → with_name names name ≡ names
with_name-there names name has = ap (λ b. if b then names else names ++ name ∷ []) (is_among-there names name has)

pub with_name-more : (names : List (List ℕ)) (name : List ℕ) → (Contains names name → ⊥) → with_name names name ≡ names ++ name ∷ []
with_name-more names name lacks = ap (λ b. if b then names else names ++ name ∷ []) (is_among-not names name lacks)

-- one file more is put last
pub names_with-push : (names : List (List ℕ)) (ss : List Stored) (s : Stored) → names_with names (ss ++ s ∷ []) ≡ with_name (names_with names ss) s.name
names_with-push names [] s = refl
names_with-push names (t ∷ ss) s = names_with-push (with_name names t.name) ss s

-- one more of the list
pub names_with-more : (ss : List Stored) (i : ℕ) (s : Stored) → i < length ss → s ≡ get_or ss i s → names_with [] (take (i + 1) ss) ≡ with_name (names_with [] (take i ss)) s.name
names_with-more ss i s h is =
    ap (names_with []) (take_more ss i s h ∙ ap (λ x. take i ss ++ x ∷ []) (sym is)) ∙ names_with-push [] (take i ss) s

-- the name of one file more stands in the list
pub order-held : (names : List (List ℕ)) (ss : List Stored) (i : ℕ) (s : Stored) → i < length ss → s ≡ get_or ss i s → names ≡ names_with [] (take i ss) → Contains names s.name → names ≡ names_with [] (take (i + 1) ss)
order-held names ss i s h is so_far has =
    sym (names_with-more ss i s h is ∙ ap (λ ns. with_name ns s.name) (sym so_far) ∙ with_name-there names s.name has)

-- the name of one file more is put at the list's end
pub order-more : (names : List (List ℕ)) (ss : List Stored) (i : ℕ) (s : Stored) → i < length ss → s ≡ get_or ss i s → names ≡ names_with [] (take i ss) → (Contains names s.name → ⊥) → names ++ s.name ∷ [] ≡ names_with [] (take (i + 1) ss)
order-more names ss i s h is so_far lacks =
    sym (names_with-more ss i s h is ∙ ap (λ ns. with_name ns s.name) (sym so_far) ∙ with_name-more names s.name lacks)
