-- Calls at each of some values, the first by itself and the others behind it.
use Rattle.std.proofs.Common.{◌≡◌, ◌∙◌, ap, arith, inl, inr, sym, subst, ℕ, ◌+◌, ◌-◌, ◌<◌, List, ◌++◌, length, length-append, get_or}
use Rattle.std.proofs.lemmas.Bool.{cases_lt}
use Rattle.std.proofs.lemmas.List.{get_or_append_left, get_or-append_right}

-- what holds of each value and its number holds of the first one
pub of_one : {T : Type 0} (P : ℕ → T → Type 0) (from : ℕ) (xs : List T) → 0 < length xs → ((i : ℕ) (d : T) → i < length xs → P (from + i) (get_or xs i d)) → (d : T) → P from (get_or xs 0 d)
of_one P from xs some all d = let here : from + 0 ≡ from = omega arith in subst (λ n. P n (get_or xs 0 d)) here (all 0 d some)

-- and what was done to the only one was done to each
pub of_only : {T : Type 0} (Q : ℕ → T → T → Type 0) (from : ℕ) (xs ys : List T) → length xs ≡ 1 → ((d : T) → Q from (get_or xs 0 d) (get_or ys 0 d)) → (i : ℕ) (d : T) → i < length xs → Q (from + i) (get_or xs i d) (get_or ys i d)
of_only Q from xs ys one done i d less =
    let first : 0 ≡ i = omega arith in
    let here : from ≡ from + 0 = omega arith in
    subst (λ n. Q (from + n) (get_or xs n d) (get_or ys n d)) first (subst (λ n. Q n (get_or xs 0 d) (get_or ys 0 d)) here (done d))

module _ {T : Type 0} (P : ℕ → T → Type 0) (from : ℕ) (xs a b : List T) (el : xs ≡ a ++ b) (one : length a ≡ 1) (all : (i : ℕ) (d : T) → i < length xs → P (from + i) (get_or xs i d)) where
  long : length xs ≡ 1 + length b
  long = let e = ap length el ∙ length-append a b in omega arith

  -- what holds of all holds of the first, and of the others
  pub of_first : (d : T) → P from (get_or a 0 d)
  of_first d =
      let l = long in
      subst (P from) (ap (λ ys. get_or ys 0 d) el ∙ get_or_append_left a b d 0 (omega arith)) (of_one P from xs (omega arith) all d)

  pub of_others : (i : ℕ) (d : T) → i < length b → P (from + 1 + i) (get_or b i d)
  of_others i d less =
      let l = long in
      let place : from + (1 + i) ≡ from + 1 + i = omega arith in
      let behind : 1 + i - 1 ≡ i = omega arith in
      let there : get_or xs (1 + i) d ≡ get_or b i d = ap (λ ys. get_or ys (1 + i) d) el ∙ get_or-append_right a b 1 (1 + i) d one (omega arith) ∙ ap (λ n. get_or b n d) behind in
      subst (λ n. P n (get_or b i d)) place (subst (λ x. P (from + (1 + i)) x) there (all (1 + i) d (omega arith)))

module _ {T : Type 0} (Q : ℕ → T → T → Type 0) (from : ℕ) (xs ys a b a' b' : List T) (el : xs ≡ a ++ b) (el' : ys ≡ a' ++ b') (one : length a ≡ 1) (same : length a' ≡ length a)
    (front : (d : T) → Q from (get_or a 0 d) (get_or a' 0 d)) (back : (i : ℕ) (d : T) → i < length b → Q (from + 1 + i) (get_or b i d) (get_or b' i d)) where
  -- what was done to the first and to the others was done to all
  pub of_both : (i : ℕ) (d : T) → i < length xs → Q (from + i) (get_or xs i d) (get_or ys i d)
  of_both i d less =
      let long = ap length el ∙ length-append a b in
      elim (cases_lt i 1) [
        | inl first ↦ (
            let x : get_or xs i d ≡ get_or a i d = ap (λ zs. get_or zs i d) el ∙ get_or_append_left a b d i (omega arith) in
            let y : get_or ys i d ≡ get_or a' i d = ap (λ zs. get_or zs i d) el' ∙ get_or_append_left a' b' d i (omega arith) in
            subst (λ u. Q (from + i) u (get_or ys i d)) (sym x) (subst (λ v. Q (from + i) (get_or a i d) v) (sym y) (of_only Q from a a' one front i d (omega arith)))
            )
        | inr behind ↦ (
            let place : from + 1 + (i - 1) ≡ from + i = omega arith in
            let x : get_or xs i d ≡ get_or b (i - 1) d = ap (λ zs. get_or zs i d) el ∙ get_or-append_right a b 1 i d one (omega arith) in
            let y : get_or ys i d ≡ get_or b' (i - 1) d = ap (λ zs. get_or zs i d) el' ∙ get_or-append_right a' b' 1 i d (same ∙ one) (omega arith) in
            subst (λ n. Q n (get_or xs i d) (get_or ys i d)) place
            (subst (λ u. Q (from + 1 + (i - 1)) u (get_or ys i d)) (sym x)
            (subst (λ v. Q (from + 1 + (i - 1)) (get_or b (i - 1) d) v) (sym y) (back (i - 1) d (omega arith))))
            )
      ]
