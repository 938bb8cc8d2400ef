-- Which pixel of its source a document shows that is made of a plan.
use Rattle.std.proofs.Common.{◌≡◌, ◌≢◌, ◌∙◌, sym, ap, refl, ℕ, zero, suc, ℤ, pos, negsuc, neg_ℤ, ◌+◌, ◌*◌, ◌/◌, ◌%◌, ◌<◌, ◌≤◌, ◌<ℤ◌, ◌≤ℤ◌, Bool, true, false, cond, ◌&&◌, List, arith, Option, Some, None, unsigned_abs}
use Rattle.std.specs.Prelude.{◌+ℤ◌, ◌-ℤ◌, ◌*ℤ◌, int_lt, int_le, nat_lt, nat_le}
use Rattle.std.proofs.lemmas.Int.{ints}
use Rattle.std.proofs.Math.IntN.{suc_ℤ, suc_ℤ-*ℤ, negsuc-*ℤ-pos, pos-*ℤ-negsuc, +ℤ_assoc}
use Rattle.std.proofs.Math.Nat.{div-div-eq-div-mul, mul-div_cancel_left, div-mul-le_self, lt-div-mul-add}
use Rattle.std.proofs.lemmas.Bool.Decides.{nat_tests}
use Rattle.lists_and_answers.specs.Options.{◌>>=◌}
use Rattle.geotransform.specs.Places.{floor_of}
use Rattle.geotransform.proofs.Floors.{floor_only}
use Rattle.geotransform.specs.Pixels.{within}
use Rattle.vrt_profile.specs.Values.{million}
use Rattle.vrt_profile.specs.Cover.{Axis, centre, is_covered, dataset_at, axis_at}

not_zero : (b : ℕ) → 0 < b → pos b ≢ pos 0
not_zero b h = λ e. absurd (omega (arith, ints, e))

one_more : (k : ℤ) → k +ℤ pos 1 ≡ suc_ℤ k
one_more (pos n) = omega (arith, ints)
one_more (negsuc zero) = refl
one_more (negsuc (suc n)) = omega (arith, ints)

-- a sum of numbers times a number
some_more : (k : ℤ) (s b : ℕ) → (k +ℤ pos s) *ℤ pos b ≡ k *ℤ pos b +ℤ pos (s * b)
some_more k zero b =
    let none : k +ℤ pos zero ≡ k = omega (arith, ints) in
    let same : k *ℤ pos b ≡ k *ℤ pos b +ℤ pos (zero * b) = omega (arith, ints) in
    ap (λ (z : ℤ). z *ℤ pos b) none ∙ same
some_more k (suc s) b =
    let next : k +ℤ pos (suc s) ≡ (k +ℤ pos s) +ℤ pos 1 = omega (arith, ints) in
    let same : (k *ℤ pos b +ℤ pos (s * b)) +ℤ pos b ≡ k *ℤ pos b +ℤ pos (suc s * b) = omega (arith, ints) in
    ap (λ (z : ℤ). z *ℤ pos b) (next ∙ one_more (k +ℤ pos s)) ∙ (suc_ℤ-*ℤ (k +ℤ pos s) (pos b) ∙ (ap (λ (z : ℤ). z +ℤ pos b) (some_more k s b) ∙ same))

low_by : (x p y : ℤ) (m n : ℕ) → x ≡ p +ℤ pos m → m ≤ n → y ≡ p +ℤ pos n → x ≤ℤ y
low_by x p y m n e h f = omega (arith, ints, e, f)

high_by : (x p y : ℤ) (m n : ℕ) → x ≡ p +ℤ pos m → n < m → y ≡ p +ℤ pos n → y <ℤ x
high_by x p y m n e h f = omega (arith, ints, e, f)

next_sum : (k : ℤ) (s : ℕ) → (k +ℤ pos s) +ℤ pos 1 ≡ k +ℤ pos (s + 1)
next_sum k s = omega (arith, ints)

less_next : (n b : ℕ) → 0 < b → n < (n / b + 1) * b
less_next n b h = omega (arith, lt-div-mul-add {a = n} {b = b} h)

-- the quotient of so many whole divisors and a rest
pub whole_and_rest : (k : ℤ) (n b : ℕ) → 0 < b → floor_of (k *ℤ pos b +ℤ pos n) (pos b) ≡ k +ℤ pos (n / b)
whole_and_rest k n b h = floor_only (k *ℤ pos b +ℤ pos n) (pos b) (k +ℤ pos (n / b)) (not_zero b h) (record {
  positive = λ p. (
    low_by _ (k *ℤ pos b) _ (n / b * b) n (some_more k (n / b) b) (div-mul-le_self n b) refl,
    high_by _ (k *ℤ pos b) _ ((n / b + 1) * b) n (ap (λ (z : ℤ). z *ℤ pos b) (next_sum k (n / b)) ∙ some_more k (n / b + 1) b) (less_next n b h) refl,
  );
  negative = λ m. absurd (omega (arith, ints));
})

-- a multiple of millionths
negative_times : (q b : ℕ) → neg_ℤ (pos q) *ℤ pos b ≡ neg_ℤ (pos (q * b))
negative_times zero b = omega (arith, ints)
negative_times (suc q) b = negsuc-*ℤ-pos q b

in_millionths : (x : ℤ) (l : ℕ) → (pos million *ℤ x) *ℤ pos l ≡ x *ℤ pos (l * million)
in_millionths (pos n) l = ap pos (omega arith)
in_millionths (negsuc n) l =
    ap (λ (z : ℤ). z *ℤ pos l) (pos-*ℤ-negsuc million n)
    ∙ (negative_times (million * suc n) l
    ∙ (ap (λ (k : ℕ). neg_ℤ (pos k)) (omega arith) ∙ sym (negsuc-*ℤ-pos n (l * million))))

-- a quotient whose parts are multiples of one number
less_parts : (c n b : ℕ) → 0 < c → (c * n) / (c * b) ≡ n / b
less_parts c n b h = sym (div-div-eq-div-mul (c * n) c b) ∙ ap (λ (k : ℕ). k / b) (mul-div_cancel_left n h)

half_millions : (i from to : ℕ) → (i * million + 500000) * (million * from) / (to * million * million) ≡ (2 * i + 1) * from / (2 * to)
half_millions i from to =
    let n : (i * million + 500000) * (million * from) ≡ 500000000000 * ((2 * i + 1) * from) = omega arith in
    let b : to * million * million ≡ 500000000000 * (2 * to) = omega arith in
    ap (λ (k : ℕ). k / (to * million * million)) n ∙ (ap (λ (k : ℕ). 500000000000 * ((2 * i + 1) * from) / k) b ∙ less_parts 500000000000 ((2 * i + 1) * from) (2 * to) (omega arith))

-- a window of a dataset on the whole of a side
abbrev pub shown_on : ℤ → ℕ → ℕ → Axis
shown_on start from to = record { mosaic_start = pos 0; mosaic_length = pos (to * million); dataset_start = pos million *ℤ start; dataset_length = pos million *ℤ pos from }

place_in : (start : ℤ) (from to i : ℕ) → 0 < to → dataset_at (shown_on start from to) (centre i) ≡ start +ℤ pos ((2 * i + 1) * from / (2 * to))
place_in start from to i some =
    let way : centre i -ℤ pos 0 ≡ centre i = omega (arith, ints) in
    let sum : (pos million *ℤ start) *ℤ pos (to * million) +ℤ (centre i -ℤ pos 0) *ℤ (pos million *ℤ pos from) ≡ start *ℤ pos (to * million * million) +ℤ pos ((i * million + 500000) * (million * from)) =
    ap (λ (z : ℤ). z +ℤ (centre i -ℤ pos 0) *ℤ (pos million *ℤ pos from)) (in_millionths start (to * million))
    ∙ ap (λ (z : ℤ). start *ℤ pos (to * million * million) +ℤ z *ℤ (pos million *ℤ pos from)) way in
    ap (λ (z : ℤ). floor_of z (pos (to * million * million))) sum
    ∙ (whole_and_rest start ((i * million + 500000) * (million * from)) (to * million * million) (omega arith)
    ∙ ap (λ (k : ℕ). start +ℤ pos k) (half_millions i from to))

covered : (start : ℤ) (from to i : ℕ) → i < to → is_covered (shown_on start from to) (centre i) ≡ true
covered start from to i h = grind (arith, nat_tests)

-- whether a number is one of so many, from 0 on
abbrev pub is_in_side : ℤ → ℕ → Bool
is_in_side z count = int_le (pos 0) z && int_lt z (pos count)

from_zero : (n : ℕ) → nat_le 0 n ≡ true
from_zero n = grind (arith, nat_tests)

counted_is : (count : ℕ) (z : ℤ) → within count z ≡ cond (is_in_side z count) (Some (unsigned_abs z)) None
counted_is count (pos n) = ap (λ (b : Bool). cond (b && nat_lt n count) (Some n) None) (sym (from_zero n))
counted_is count (negsuc n) = refl

pub axis_is : (start : ℤ) (from to count i : ℕ) → i < to → axis_at (shown_on start from to) count i ≡ cond (is_in_side (start +ℤ pos ((2 * i + 1) * from / (2 * to))) count) (Some (unsigned_abs (start +ℤ pos ((2 * i + 1) * from / (2 * to))))) None
axis_is start from to count i h =
    ap (λ (b : Bool). cond b (within count (dataset_at (shown_on start from to) (centre i))) None) (covered start from to i h)
    ∙ (ap (within count) (place_in start from to i (omega arith)) ∙ counted_is count (start +ℤ pos ((2 * i + 1) * from / (2 * to))))
