-- Numbers of a written document are read again, in the places in which they count.
use Rattle.std.proofs.Common.{◌≡◌, ℕ, ℤ, suc, ◌+◌, ◌-◌, ◌*◌, ◌/◌, ◌%◌, ◌^◌, ◌<◌, ◌≤◌, Bool, true, false, cond, List, ◌++◌, length, Option, Some, None, refl, ap, ◌∙◌, sym, ⊎_elim, arith, unsigned_abs, pos, negsuc}
use Rattle.std.specs.Prelude.{◌+ℤ◌, ◌-ℤ◌, ◌*ℤ◌, neg_ℤ, nat_lt, nat_le, ◌&&◌}
use Rattle.std.specs.List.{list_all}
use Rattle.std.specs.Char.{is_ascii_digit}
use Rattle.std.specs.Fmt.{decimal}
use Rattle.std.proofs.lemmas.Bool.{cases_lt}
use Rattle.std.proofs.lemmas.Bool.Decides.{nat_tests}
use Rattle.std.proofs.lemmas.Nat.{pow-add, div-mul-add}
use Rattle.std.proofs.lemmas.Int.{ints}
use Rattle.std.proofs.lemmas.Fmt.{digits_decimal, digits_value-decimal, decimal_nonempty, length-decimal-le}
use Rattle.std.proofs.Math.Nat.{mul_assoc, one-le-pow, mul-div_cancel}
use Rattle.lists_and_answers.specs.Options.{◌>>=◌}
use Rattle.geotransform.specs.Decimal.{number, number_of}
use Rattle.vrt_profile.specs.Fields.{whole_text}
use Rattle.geotransform.specs.Decimal.{Decimal, parts_of, ticks_of, places_of, signed, scaled, half_up, magnitude, rounded_magnitude, rounded_near, mantissa}
use Rattle.geotransform.specs.Print.{unit, rounded_to, with_point, short_of, short_text}
use Rattle.geotransform.proofs.Numbers.{own}
use Rattle.geotransform.proofs.Written.{rounded_is}
use Rattle.geotransform.proofs.RoundTrip.{short_again, fraction_of, fraction_short, parts_are, parts_positive, parts_negative, minus_none, minus_one}
use Rattle.vrt_writing.specs.Spelled.{micro_text, part_text}

short_positive : (n : ℕ) → n % 18 ≡ 0 → n < 10 ^ 12 * unit → parts_of (short_text (pos n)) ≡ Some (parts_are false (n / 18))
short_positive n whole small =
    let q : ℕ = n / 18 in
    let is : rounded_to 16 (pos n) ≡ q = rounded_is (pos n) ∙ omega arith in
    let less : q < 10 ^ 28 = omega arith in
    ap (λ k. parts_of (short_of (pos n) k)) is ∙ ap (λ (m : List ℕ). parts_of (m ++ decimal (q / 10 ^ 16) ++ with_point (fraction_of q))) (minus_none n q) ∙ parts_positive q less

short_negative : (n : ℕ) → suc n % 18 ≡ 0 → suc n < 10 ^ 12 * unit → parts_of (short_text (negsuc n)) ≡ Some (parts_are true (suc n / 18))
short_negative n whole small =
    let q : ℕ = suc n / 18 in
    let is : rounded_to 16 (negsuc n) ≡ q = rounded_is (negsuc n) ∙ omega arith in
    let less : q < 10 ^ 28 = omega arith in
    ap (λ k. parts_of (short_of (negsuc n) k)) is ∙ ap (λ (m : List ℕ). parts_of (m ++ decimal (q / 10 ^ 16) ++ with_point (fraction_of q))) (minus_one n q (omega arith)) ∙ parts_negative q less

-- what the ticks of a decimal tell of its magnitude
record IsMagnitude (d : Decimal) (v : ℤ) : Type 0 where
  pub few : nat_lt (magnitude d) (10 ^ 28) ≡ true
  pub is : signed d.negative (18 * magnitude d) ≡ v

magnitude_by : (d : Decimal) (v : ℤ) (b : Bool) → nat_lt (magnitude d) (10 ^ 28) ≡ b → cond b (Some (signed d.negative (18 * magnitude d))) None ≡ Some v → IsMagnitude d v
magnitude_by d v true e h =
    let same : signed d.negative (18 * magnitude d) ≡ v = cc in
    record { few = e; is = same }
magnitude_by d v false e h = absurd cc

magnitude_of : (text : List ℕ) (d : Decimal) (v : ℤ) → parts_of text ≡ Some d → ticks_of text ≡ Some v → IsMagnitude d v
unfolding ticks_of
magnitude_of text d v p t =
    let finish : Decimal → Option ℤ = λ e. cond (nat_lt (magnitude e) (10 ^ 28)) (Some (signed e.negative (18 * magnitude e))) None in
    magnitude_by d v (nat_lt (magnitude d) (10 ^ 28)) refl (sym (ap (λ (o : Option Decimal). o >>= finish) p) ∙ t)

cancel : (m u x : ℕ) → 0 < x → m * x ≡ u * x → m ≡ u
cancel m u x some e = sym (mul-div_cancel m some) ∙ ap (λ y. y / x) e ∙ mul-div_cancel u some

-- a value with a digits behind its point, in units of the k-th place
less_places : (m a k u : ℕ) → k ≤ 16 → a ≤ k → m * 10 ^ (16 - a) ≡ u * 10 ^ (16 - k) → scaled m (pos 0 -ℤ pos a +ℤ pos k) ≡ u
less_places m a k u le h e =
    let exponent : pos 0 -ℤ pos a +ℤ pos k ≡ pos (k - a) = omega (arith, ints) in
    let sum : 16 - a ≡ (k - a) + (16 - k) = omega arith in
    let split : 10 ^ (16 - a) ≡ 10 ^ (k - a) * 10 ^ (16 - k) = ap (λ j. 10 ^ j) sum ∙ pow-add 10 (k - a) (16 - k) in
    ap (scaled m) exponent ∙ cancel (m * 10 ^ (k - a)) u (10 ^ (16 - k)) (one-le-pow (16 - k) 10 (omega arith)) (mul_assoc m (10 ^ (k - a)) (10 ^ (16 - k)) ∙ ap (λ y. m * y) (sym split) ∙ e)

half_whole : (u b : ℕ) → 0 < b → half_up (u * b) b ≡ u
half_whole u b some = ap (λ x. x / (2 * b)) (ap (λ y. y + b) (sym (mul_assoc 2 u b) ∙ ap (λ y. y * b) (omega arith) ∙ mul_assoc u 2 b)) ∙ div-mul-add u (2 * b) b (omega arith)

more_places : (m a k u : ℕ) → a ≤ 16 → k < a → m * 10 ^ (16 - a) ≡ u * 10 ^ (16 - k) → scaled m (pos 0 -ℤ pos a +ℤ pos k) ≡ u
more_places m a k u le h e =
    let exponent : pos 0 -ℤ pos a +ℤ pos k ≡ negsuc (a - k - 1) = omega (arith, ints) in
    let sum : 16 - k ≡ (a - k) + (16 - a) = omega arith in
    let one : suc (a - k - 1) ≡ a - k = omega arith in
    let split : 10 ^ (16 - k) ≡ 10 ^ (a - k) * 10 ^ (16 - a) = ap (λ j. 10 ^ j) sum ∙ pow-add 10 (a - k) (16 - a) in
    let digits : m ≡ u * 10 ^ (a - k) = cancel m (u * 10 ^ (a - k)) (10 ^ (16 - a)) (one-le-pow (16 - a) 10 (omega arith)) (e ∙ ap (λ y. u * y) split ∙ sym (mul_assoc u (10 ^ (a - k)) (10 ^ (16 - a)))) in
    ap (scaled m) exponent ∙ ap (λ j. half_up m (10 ^ j)) one ∙ ap (λ y. half_up y (10 ^ (a - k))) digits ∙ half_whole u (10 ^ (a - k)) (one-le-pow (a - k) 10 (omega arith))

fewer_places : (m a k u : ℕ) → a ≤ 16 → k ≤ 16 → m * 10 ^ (16 - a) ≡ u * 10 ^ (16 - k) → scaled m (pos 0 -ℤ pos a +ℤ pos k) ≡ u
fewer_places m a k u la lk e = ⊎_elim (λ (h : k < a). more_places m a k u la h e) (λ (h : a ≤ k). less_places m a k u lk h e) (cases_lt k a)

magnitude_is : (q : ℕ) (negative : Bool) → magnitude (parts_are negative q) ≡ mantissa (parts_are negative q) * 10 ^ (16 - length (fraction_of q))
magnitude_is q negative =
    let exponent : pos 0 -ℤ pos (length (fraction_of q)) +ℤ pos 16 ≡ pos (16 - length (fraction_of q)) = omega (arith, ints, fraction_short q) in
    ap (scaled (mantissa (parts_are negative q))) exponent

at_places : (q k u : ℕ) (negative : Bool) → k ≤ 16 → magnitude (parts_are negative q) ≡ u * 10 ^ (16 - k) → rounded_magnitude k (parts_are negative q) ≡ u
at_places q k u negative le e = fewer_places (mantissa (parts_are negative q)) (length (fraction_of q)) k u (fraction_short q) le (sym (magnitude_is q negative) ∙ e)

places_from : (text : List ℕ) (q k u : ℕ) (negative : Bool) → k ≤ 16 → parts_of text ≡ Some (parts_are negative q) → nat_lt (magnitude (parts_are negative q)) (10 ^ 28) ≡ true → magnitude (parts_are negative q) ≡ u * 10 ^ (16 - k) → places_of k text ≡ Some (signed negative u)
unfolding places_of
places_from text q k u negative le p few e =
    let finish : Decimal → Option ℤ = λ d. rounded_near k d >>= λ n. Some (signed d.negative n) in
    ap (λ (o : Option Decimal). o >>= finish) p
    ∙ ap (λ b. cond b (Some (rounded_magnitude k (parts_are negative q))) None >>= λ n. Some (signed negative n)) few
    ∙ ap (λ n. Some (signed negative n)) (at_places q k u negative le e)

-- A number of units of the k-th place that was written in ticks is read again.
places_positive : (k u n : ℕ) → k ≤ 16 → n ≡ 18 * (u * 10 ^ (16 - k)) → n < 10 ^ 12 * unit → places_of k (short_text (pos n)) ≡ Some (pos u)
places_positive k u n le is small =
    let whole : n % 18 ≡ 0 = omega arith in
    let p = short_positive n whole small in
    let m = magnitude_of (short_text (pos n)) (parts_are false (n / 18)) (pos n) p (short_again (pos n) whole small) in
    let same : 18 * magnitude (parts_are false (n / 18)) ≡ n = omega (arith, ints, m.is) in
    places_from (short_text (pos n)) (n / 18) k u false le p m.few (omega (arith, same, is))

places_negative : (k u n : ℕ) → k ≤ 16 → suc n ≡ 18 * (u * 10 ^ (16 - k)) → suc n < 10 ^ 12 * unit → places_of k (short_text (negsuc n)) ≡ Some (neg_ℤ (pos u))
places_negative k u n le is small =
    let whole : suc n % 18 ≡ 0 = omega arith in
    let p = short_negative n whole small in
    let m = magnitude_of (short_text (negsuc n)) (parts_are true (suc n / 18)) (negsuc n) p (short_again (negsuc n) whole small) in
    let same : 18 * magnitude (parts_are true (suc n / 18)) ≡ suc n = omega (arith, ints, m.is) in
    places_from (short_text (negsuc n)) (suc n / 18) k u true le p m.few (omega (arith, same, is))

pub micro_again : (v : ℤ) → unsigned_abs v < 10 ^ 18 → places_of 6 (micro_text v) ≡ Some v
unfolding micro_text
micro_again (pos n) small = places_positive 6 n (n * 180000000000) (omega arith) (omega arith) (omega arith)
micro_again (negsuc n) small =
    let m : ℕ = suc n * 180000000000 - 1 in
    let is : negsuc n *ℤ pos 180000000000 ≡ negsuc m = omega (arith, ints) in
    ap (λ (t : ℤ). places_of 6 (short_text t)) is ∙ places_negative 6 (suc n) m (omega arith) (omega arith) (omega arith)

pub part_again : (v : ℤ) → unsigned_abs v < 10 ^ 24 → places_of 12 (part_text v) ≡ Some v
unfolding part_text
part_again (pos n) small = places_positive 12 n (n * 180000) (omega arith) (omega arith) (omega arith)
part_again (negsuc n) small =
    let m : ℕ = suc n * 180000 - 1 in
    let is : negsuc n *ℤ pos 180000 ≡ negsuc m = omega (arith, ints) in
    ap (λ (t : ℤ). places_of 12 (short_text t)) is ∙ places_negative 12 (suc n) m (omega arith) (omega arith) (omega arith)

-- a whole number of a size, a band or a place is read again
pub count_again : (n : ℕ) → n < 10 ^ 9 → whole_text (decimal n) ≡ Some n
count_again n small =
    let long = length-decimal-le 9 n (omega arith) small (omega arith) in
    let short : nat_le (length (decimal n)) 9 ≡ true = grind (arith, nat_tests, long) in
    let some : nat_lt 0 (length (decimal n)) ≡ true = grind (arith, nat_tests, decimal_nonempty n (omega arith)) in
    let less : nat_le (length (decimal n)) 18 ≡ true = grind (arith, nat_tests, long) in
    ap (λ b. cond b (number_of (decimal n)) None) short
    ∙ ap (λ b. cond (b && (nat_le (length (decimal n)) 18 && list_all is_ascii_digit (decimal n))) (Some (number (decimal n))) None) some
    ∙ ap (λ b. cond (b && list_all is_ascii_digit (decimal n)) (Some (number (decimal n))) None) less
    ∙ ap (λ b. cond b (Some (number (decimal n))) None) (digits_decimal own n (omega arith))
    ∙ ap Some (digits_value-decimal own n (omega arith))
