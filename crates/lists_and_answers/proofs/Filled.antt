-- Lists that are filled from the front with the values of a function.
use Rattle.std.proofs.Common.{◌≡◌, ℕ, ℤ, pos, ◌+◌, ◌<◌, ◌≤◌, Bool, true, List, length, map, get_or, set, ap, ◌∙◌, sym, arith, zero-add, ⊎_elim}
use Rattle.std.specs.List.{range_with_len, All}
use Rattle.std.proofs.lemmas.List.Edits.{fill_by_more}
use Rattle.std.proofs.lemmas.Bool.{cases_lt}
use Rattle.std.proofs.lemmas.List.FromFn.{fill_by_all, length-map-range_with_len, get_or-map-range_with_len}

-- one more value is that of f
pub filled_more : (f : ℕ → ℤ) (xs : List ℤ) (i : ℕ) (v w : ℤ) → i < length xs → w ≡ v → v ≡ f i → ((k : ℕ) → k < i → get_or xs k (pos 0) ≡ f k) → (k : ℕ) → k < i + 1 → get_or (set xs i w) k (pos 0) ≡ f k
filled_more f xs i v w less same is so_far k below = ap (λ x. get_or (set xs i x) k (pos 0)) (same ∙ is) ∙ fill_by_more f xs i (pos 0) less so_far k below

-- one more value of f is in the range
pub range_more : (is_within : ℤ → Bool) (f : ℕ → ℤ) (i : ℕ) (v : ℤ) → v ≡ f i → is_within v ≡ true → ((k : ℕ) → k < i → is_within (f k) ≡ true) → (k : ℕ) → k < i + 1 → is_within (f k) ≡ true
range_more is_within f i v is within so_far k below =
    ⊎_elim (λ (earlier : k < i). so_far k earlier)
    (λ (last : i ≤ k). ap (λ j. is_within (f j)) (omega arith) ∙ ap is_within (sym is) ∙ within)
    (cases_lt k i)

-- values of f that are in the range, as a list
pub range_of_all : (is_within : ℤ → Bool) (f : ℕ → ℤ) (n : ℕ) → ((k : ℕ) → k < n → is_within (f k) ≡ true) → All (λ m. is_within m ≡ true) (map f (range_with_len 0 n))
range_of_all is_within f n h = λ k d below.
    let less : k < n = omega (arith, length-map-range_with_len f 0 n) in
    ap is_within (get_or-map-range_with_len f 0 n k k d less (zero-add k)) ∙ h k less

-- two functions with the same values give the same list
pub map_range_same : (f g : ℕ → ℤ) (n : ℕ) → ((i : ℕ) → i < n → f i ≡ g i) → map f (range_with_len 0 n) ≡ map g (range_with_len 0 n)
map_range_same f g n same = fill_by_all g (map f (range_with_len 0 n)) n (pos 0) (length-map-range_with_len f 0 n) (λ k below. get_or-map-range_with_len f 0 n k k (pos 0) below (zero-add k) ∙ same k below)
