-- Powers of ten in a table, and numbers that they scale up to a limit.
use Rattle.std.proofs.Common.{◌≡◌, ◌≢◌, ℕ, suc, zero, ◌+◌, ◌-◌, ◌*◌, ◌^◌, ◌<◌, ◌≤◌, List, [], ◌∷◌, length, get_or, Bool, true, false, min, arith, refl, ap, ◌∙◌, sym, ⊎_elim}
use Rattle.std.specs.Prelude.{◌&&◌, ◌==◌}
use Rattle.std.proofs.Math.Nat.{add-mul, mul-le-mul_right, mul-le-mul_left, pow-le-pow_right, one-le-pow}
use Rattle.std.proofs.lemmas.Nat.{pow-add}
use Rattle.std.proofs.lemmas.Bool.{cases_lt}
use Rattle.std.proofs.lemmas.Bool.Decides.{nat_tests}

and_left : (a b : Bool) → (a && b) ≡ true → a ≡ true
and_left true b h = refl
and_left false b h = h

and_right : (a b : Bool) → (a && b) ≡ true → b ≡ true
and_right true b h = h
and_right false b h = absurd (cc)

-- n, and so often ten times the one before
abbrev pub tens_from : ℕ → ℕ → List ℕ
tens_from n zero = []
tens_from n (suc k) = n ∷ tens_from (n * 10) k

-- whether the numbers are the powers of ten from the k-th on
abbrev are_tens : ℕ → List ℕ → Bool
are_tens k [] = true
are_tens k (x ∷ xs) = (x == 10 ^ k) && are_tens (suc k) xs

tens_at : (xs : List ℕ) (k i j : ℕ) → are_tens k xs ≡ true → i < length xs → j ≡ k + i → get_or xs i 0 ≡ 10 ^ j
tens_at [] k i j t less e = absurd (omega arith)
tens_at (x ∷ xs) k zero j t less e =
    let first : (x == 10 ^ k) ≡ true = and_left (x == 10 ^ k) (are_tens (suc k) xs) t in
    let is : x ≡ 10 ^ k = grind (arith, nat_tests) in
    let same : k ≡ j = omega arith in
    is ∙ ap (λ k. 10 ^ k) same
tens_at (x ∷ xs) k (suc i) j t less e = tens_at xs (suc k) i j (and_right (x == 10 ^ k) (are_tens (suc k) xs) t) (omega arith) (omega arith)

pub ten_at : (k : ℕ) → k ≤ 28 → get_or (tens_from 1 29) k 0 ≡ 10 ^ k
ten_at k few = tens_at (tens_from 1 29) 0 k k refl (omega arith) (omega arith)

-- ten to the most, in two parts
apart : (k most : ℕ) → k ≤ most → 10 ^ (most - k) * 10 ^ k ≡ 10 ^ most
apart k most le =
    let sum : most - k + k ≡ most = omega arith in
    sym (pow-add 10 (most - k) k) ∙ ap (λ j. 10 ^ j) sum

pub within : (n k most : ℕ) → k ≤ most → n < 10 ^ (most - k) → n * 10 ^ k < 10 ^ most
within n k most le less =
    let wide : (n + 1) * 10 ^ k ≤ 10 ^ (most - k) * 10 ^ k = mul-le-mul_right (10 ^ k) (omega arith) in
    let some : 1 ≤ 10 ^ k = one-le-pow k 10 (omega arith) in
    omega (arith, wide, add-mul n 1 (10 ^ k), apart k most le, some)

pub fits : (n k most : ℕ) → most ≤ 28 → k ≤ most → n < 10 ^ (most - k) → n * 10 ^ k < 2 ^ 128
fits n k most small le less =
    let top : 10 ^ most ≤ 10 ^ 28 = pow-le-pow_right (omega arith) small in
    omega (arith, within n k most le less, top)

pub reached : (n k most : ℕ) → k ≤ most → 10 ^ (most - k) ≤ n → 10 ^ most ≤ n * 10 ^ k
reached n k most le high =
    let wide : 10 ^ (most - k) * 10 ^ k ≤ n * 10 ^ k = mul-le-mul_right (10 ^ k) high in
    omega (arith, wide, apart k most le)

pub past : (n k most : ℕ) → most < k → n ≢ 0 → 10 ^ most ≤ n * 10 ^ k
past n k most more some =
    let one : 0 < n = omega arith in
    let wide : 1 * 10 ^ k ≤ n * 10 ^ k = mul-le-mul_right (10 ^ k) one in
    let top : 10 ^ most ≤ 10 ^ k = pow-le-pow_right (omega arith) (omega arith) in
    omega (arith, wide, top)

-- to cap first changes nothing
pub capped_first : (m k c : ℕ) → min (min m c * 10 ^ k) c ≡ min (m * 10 ^ k) c
capped_first m k c =
    let some : 1 ≤ 10 ^ k = one-le-pow k 10 (omega arith) in
    ⊎_elim
    (λ (less : m < c). let same : min m c ≡ m = omega arith in ap (λ x. min (x * 10 ^ k) c) same)
    (λ (more : c ≤ m).
    let same : min m c ≡ c = omega arith in
    let low : c * 1 ≤ c * 10 ^ k = mul-le-mul_left c some in
    let high : m * 1 ≤ m * 10 ^ k = mul-le-mul_left m some in
    let both : min (c * 10 ^ k) c ≡ min (m * 10 ^ k) c = omega arith in
    ap (λ x. min (x * 10 ^ k) c) same ∙ both)
    (cases_lt m c)

pub cap_small : (most : ℕ) → most ≤ 28 → 10 ^ most ≤ 10 ^ 30
cap_small most small = let less : most ≤ 30 = omega arith in pow-le-pow_right (omega arith) less
