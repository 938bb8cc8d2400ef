-- Lists that grow by one, or get one value more.
use Rattle.std.proofs.Common.{◌≡◌, ℕ, ℤ, ◌+◌, ◌<◌, List, [], ◌∷◌, ◌++◌, length, ◌-◌, ap, sym, ◌∙◌, subst, arith, pos, get_or, inl, inr}
use Rattle.std.specs.Prelude.{slice_set}
use Rattle.std.proofs.lemmas.Bool.{cases_lt}
use Rattle.std.proofs.lemmas.List.{get_or_append_left, get_or-append_right, get_or-set_same, get_or-set_other}

-- a list whose places so far have a property gets one that has it
pub set_more : (P : ℕ → ℤ → Type 0) (row : List ℤ) (at : ℕ) (v : ℤ) → at < length row → ((i : ℕ) → i < at → P i (get_or row i (pos 0))) → P at v → (i : ℕ) → i < at + 1 → P i (get_or (slice_set row at v) i (pos 0))
set_more P row at v inside before here i less = elim (cases_lt i at) [
  | inl a ↦ subst (P i) (sym (get_or-set_other row at i v (pos 0) (λ z. absurd (omega arith)))) (before i a)
  | inr b ↦
      let same : at ≡ i = omega arith in
      subst (λ n. P n (get_or (slice_set row at v) n (pos 0))) same (subst (P at) (sym (get_or-set_same row at v (pos 0) inside)) here)
]

-- a list of numbers whose places have a property grows by one that has it
pub push_more : (P : ℕ → ℕ → Type 0) (xs ys : List ℕ) (at v : ℕ) → length xs ≡ at → ys ≡ xs ++ (v ∷ []) → ((i : ℕ) → i < at → P i (get_or xs i 0)) → P at v → (i : ℕ) → i < at + 1 → P i (get_or ys i 0)
push_more P xs ys at v long is before here i less = elim (cases_lt i at) [
  | inl a ↦ subst (P i) (sym (ap (λ l. get_or l i 0) is ∙ get_or_append_left xs (v ∷ []) 0 i (omega arith))) (before i a)
  | inr b ↦
      let same : at ≡ i = omega arith in
      let none : 0 ≡ i - at = omega arith in
      let e : get_or (xs ++ (v ∷ [])) i 0 ≡ get_or (v ∷ []) (i - at) 0 = get_or-append_right xs (v ∷ []) at i 0 long (omega arith) in
      subst (P i) (ap (λ n. get_or (v ∷ []) n 0) none ∙ sym e ∙ ap (λ l. get_or l i 0) (sym is)) (subst (λ n. P n v) same here)
]
