-- Numbers in a row, and texts of bands.
use Rattle.std.proofs.Common.{◌≡◌, ◌∙◌, ap, ℕ, zero, suc, ◌+◌, ◌<◌, ◌≤◌, Bool, true, false, cond, List, [], ◌∷◌, ◌++◌, length, take, get_or, Some, None, refl, arith, add-one, sym}
use Rattle.std.specs.Prelude.{All, nat_lt}
use Rattle.std.specs.List.{range_with_len, find}
use Rattle.std.proofs.lemmas.Bool.{ltb-false}
use Rattle.std.proofs.lemmas.List.{take_more}
use Rattle.std.proofs.lemmas.List.Elements.{All-nil, All-cons, All-append, All-from_get_or}
use Rattle.std.proofs.lemmas.List.FromFn.{length-range_with_len, get_or-range_with_len}

-- one number more at the end
range_more_from : (a n j : ℕ) → a + n ≡ j → range_with_len a (suc n) ≡ range_with_len a n ++ j ∷ []
range_more_from a zero j e = let same : a ≡ j = omega arith in ap (λ k. k ∷ []) same
range_more_from a (suc n) j e = ap (λ ks. a ∷ ks) (range_more_from (a + 1) n j (omega arith))

pub range_more : (n : ℕ) → range_with_len 1 (n + 1) ≡ range_with_len 1 n ++ (n + 1) ∷ []
range_more n = let next : n + 1 ≡ suc n = add-one n in ap (range_with_len 1) next ∙ range_more_from 1 n (n + 1) (omega arith)

-- each number of a row from 1 is from 1 to their count
pub all_range : (count : ℕ) → All (λ band. (1 ≤ band) × (band ≤ count)) (range_with_len 1 count)
all_range count = All-from_get_or (λ band. (1 ≤ band) × (band ≤ count)) (range_with_len 1 count) 0 (λ i h.
    let inside : i < count = omega (arith, length-range_with_len 1 count) in
    let e = get_or-range_with_len 1 count i 0 inside in
    (omega arith, omega arith))

found_cons : (count b : ℕ) (bs : List ℕ) (t : Bool) → nat_lt count b ≡ t → cond t (Some b) (find (λ band. nat_lt count band) bs) ≡ None → (find (λ band. nat_lt count band) bs ≡ None → All (λ band. band ≤ count) bs) → All (λ band. band ≤ count) (b ∷ bs)
found_cons count b bs true is none rest = let no : ⊥ = cc in absurd no
found_cons count b bs false is none rest =
    let near : b ≤ count = ltb-false count b is in
    All-cons (λ band. band ≤ count) b bs near (rest none)

-- where no number is past the count, each is at most the count
pub all_found : (count : ℕ) (bands : List ℕ) → find (λ band. nat_lt count band) bands ≡ None → All (λ band. band ≤ count) bands
all_found count [] none = λ k d h. absurd (omega arith)
all_found count (b ∷ bs) none = found_cons count b bs (nat_lt count b) refl none (all_found count bs)

-- what two facts say of each item
pub both : (P Q : ℕ → Type 0) (xs : List ℕ) → All P xs → All Q xs → All (λ x. P x × Q x) xs
both P Q xs p q = λ k d h. (p k d h, q k d h)

-- one number more of a list of numbers from 1
pub numbers_more : (bands numbers : List ℕ) (i n d : ℕ) → i < length bands → n ≡ get_or bands i d → 1 ≤ n → numbers ≡ take i bands → All (λ band. 1 ≤ band) numbers → (numbers ++ n ∷ [] ≡ take (i + 1) bands) × All (λ band. 1 ≤ band) (numbers ++ n ∷ [])
numbers_more bands numbers i n d less is first same all = (
  ap (λ (xs : List ℕ). xs ++ n ∷ []) same ∙ ap (λ (k : ℕ). take i bands ++ k ∷ []) is ∙ sym (take_more bands i d less),
  All-append (λ band. 1 ≤ band) numbers (n ∷ []) all (All-cons (λ band. 1 ≤ band) n [] first (All-nil (λ (band : ℕ). 1 ≤ band))),
)
