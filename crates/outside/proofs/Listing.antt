-- The names of files that were put one after another.
use Rattle.std.proofs.Common.{◌≡◌, ◌≢◌, ℕ, ◌+◌, ◌<◌, ◌⊎◌, ◌↔◌, inl, inr, List, [], ◌∷◌, ◌++◌, length, take, get_or, refl, sym, subst, Option, Some, true, false, Bool, Contains, IsSome, arith}
use Rattle.std.specs.FinMap.{get}
use Rattle.std.specs.Str.{bytes_eq}
use Rattle.std.proofs.lemmas.Slice.Eq.{bytes_eq-Decides}
use Rattle.std.proofs.lemmas.List.Elements.{Contains-append_left, Contains-get_or, Contains-push, Contains-push_cases}
use Rattle.std.proofs.lemmas.List.Quantifiers.{all_pairs_push}
use Rattle.outside.specs.Outside.{Files}
use Rattle.outside.specs.Memory.{files_of, AreNames, AreApart}
use Rattle.outside.specs.Stored.{newest}
use Rattle.outside.specs.declared.memory.Stored.{Stored}
use Rattle.outside.proofs.Puts.{newest-none, newest-same, newest-other}

-- a list has the names of these files, and no other
abbrev pub Lists : List (List ℕ) → List Stored → Type 0
Lists names ss = (name : List ℕ) → Contains names name ↔ IsSome (newest ss name)

same_or_other : (a b : List ℕ) → (a ≡ b) ⊎ (a ≡ b → ⊥)
same_or_other a b = cases (bytes_eq a b) (bytes_eq-Decides a b).0 (bytes_eq-Decides a b).1
  where
    cases : (r : Bool) → (r ≡ true → a ≡ b) → (a ≡ b → r ≡ true) → (a ≡ b) ⊎ (a ≡ b → ⊥)
    cases true here _ = inl (here refl)
    cases false _ back = inr (λ e. cc (back e))

there : (o : Option (List ℕ)) (b : List ℕ) → o ≡ Some b → IsSome o
there o b is = subst (λ x. IsSome x) (sym is) refl

-- no file was put
pub lists-none : Lists [] []
lists-none name = (λ c. absurd (omega (arith, c.1)), λ some. cc (some, newest-none name))

-- one file more, whose name stands in the list
pub lists-held : (names : List (List ℕ)) (ss : List Stored) (i : ℕ) (s : Stored) → i < length ss → s ≡ get_or ss i s → Lists names (take i ss) → Contains names s.name → Lists names (take (i + 1) ss)
lists-held names ss i s h is so_far has = λ name. elim (same_or_other s.name name) [
  | inl e ↦ (λ _. there _ _ (newest-same ss i s name h is e), λ _. subst (Contains names) e has)
  | inr ne ↦
      let q = newest-other ss i s name h is ne in
      (λ c. subst (λ x. IsSome x) (sym q) ((so_far name).0 c), λ some. (so_far name).1 (subst (λ x. IsSome x) q some))
]

-- one file more, whose name is put at the list's end
pub lists-more : (names : List (List ℕ)) (ss : List Stored) (i : ℕ) (s : Stored) → i < length ss → s ≡ get_or ss i s → Lists names (take i ss) → Lists (names ++ s.name ∷ []) (take (i + 1) ss)
lists-more names ss i s h is so_far = λ name. elim (same_or_other s.name name) [
  | inl e ↦ (λ _. there _ _ (newest-same ss i s name h is e), λ _. subst (Contains (names ++ s.name ∷ [])) e (Contains-push names s.name))
  | inr ne ↦
      let q = newest-other ss i s name h is ne in (
        λ c. elim (Contains-push_cases names s.name name c) [
          | inl old ↦ subst (λ x. IsSome x) (sym q) ((so_far name).0 old)
          | inr e ↦ absurd (ne e)
        ],
        λ some. Contains-append_left names (s.name ∷ []) name ((so_far name).1 (subst (λ x. IsSome x) q some)),
      )
]

-- a list of no name has none twice
pub apart-none : AreApart []
apart-none i j d less within = absurd (omega (arith, within))

-- a name more, which didn't stand in the list
pub apart-more : (names : List (List ℕ)) (name : List ℕ) → AreApart names → (Contains names name → ⊥) → AreApart (names ++ name ∷ [])
apart-more names name apart new =
    all_pairs_push (λ a b. a ≢ b) names name apart (λ k d within. λ same. new (subst (Contains names) same (Contains-get_or names k d within)))

-- what is told of these files
pub lists-told : (names : List (List ℕ)) (ss : List Stored) → Lists names ss → AreNames names (Some (files_of ss))
lists-told names ss h = λ m is name.
    let e : files_of ss ≡ m = cc in
    subst (λ (n : Files). Contains names name ↔ IsSome (get n name)) e (h name)
