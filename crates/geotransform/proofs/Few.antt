-- Decimal texts of few digits, whose number is known at once.
use Rattle.std.proofs.Common.{◌≡◌, ◌≢◌, ℕ, ℤ, pos, negsuc, ◌≤ℤ◌, ◌<ℤ◌, ⊎_elim, suc, zero, ◌+◌, ◌-◌, ◌*◌, ◌^◌, ◌<◌, ◌≤◌, List, [], ◌∷◌, ◌++◌, length, get_or, take, drop, Bool, true, false, cond, Option, Some, None, min, arith, refl, ap, ◌∙◌, sym, subst, ◌+ℤ◌, length-take}
use Rattle.std.specs.Prelude.{◌==◌, ◌&&◌, ◌-ℤ◌, nat_lt, nat_le, if◌then◌else◌}
use Rattle.std.specs.List.{fold, list_all, prefix_len}
use Rattle.std.specs.Option.{option_map}
use Rattle.std.specs.Char.{is_ascii_digit}
use Rattle.std.proofs.Math.Nat.{pow-le-pow_right, pow-succ', one-le-pow, div-eq_of_lt, mul-le-mul_left, mul-le-mul_right, mul_assoc}
use Rattle.std.proofs.lemmas.Bool.{cases_lt}
use Rattle.std.proofs.lemmas.List.{take_all}
use Rattle.std.proofs.lemmas.List.Folds.{list_all_at}
use Rattle.std.proofs.lemmas.Bool.Decides.{nat_tests}
use Rattle.std.proofs.lemmas.Int.{ints}
use Rattle.std.proofs.lemmas.List.Sums.{fold-append, prefix_len_stops}
use Rattle.lists_and_answers.specs.Options.{◌>>=◌}
use Rattle.geotransform.specs.Decimal.{number, half_up, scaled, signed, short_number, Decimal, sign_at, digits_at, fraction_at, exponent_of, with_digits, parts_of, magnitude, rounded_magnitude, rounded_near, ticks_of, places_of}
use Rattle.geotransform.specs.Parts.{brief, limited, counted_digits}
use Rattle.geotransform.proofs.Numbers.{half_le, number_short, all_taken}
use Rattle.geotransform.proofs.RoundTrip.{digits-cons}
use Rattle.geotransform.proofs.Fewer.{scaled_le}
use Rattle.geotransform.proofs.Tens.{within, reached, past}

pub prefix_is : (xs : List ℕ) (i : ℕ) → list_all is_ascii_digit (take i xs) ≡ true → i < length xs → is_ascii_digit (get_or xs i 0) ≡ false → i ≡ prefix_len is_ascii_digit xs
prefix_is [] i all less stop = absurd (omega arith)
prefix_is (x ∷ xs) zero all less stop = sym (ap (λ b. cond b (1 + prefix_len is_ascii_digit xs) 0) stop)
prefix_is (x ∷ xs) (suc i) all less stop =
    let parts = digits-cons x (take i xs) all in
    let rest : i ≡ prefix_len is_ascii_digit xs = prefix_is xs i parts.1 (omega arith) stop in
    let more : suc i ≡ 1 + prefix_len is_ascii_digit xs = omega arith in
    more ∙ sym (ap (λ b. cond b (1 + prefix_len is_ascii_digit xs) 0) parts.0)

pub prefix_whole : (xs : List ℕ) → list_all is_ascii_digit (take (length xs) xs) ≡ true → length xs ≡ prefix_len is_ascii_digit xs
prefix_whole [] all = refl
prefix_whole (x ∷ xs) all =
    let parts = digits-cons x (take (length xs) xs) all in
    let more : suc (length xs) ≡ 1 + prefix_len is_ascii_digit xs = omega (arith, prefix_whole xs parts.1) in
    more ∙ sym (ap (λ b. cond b (1 + prefix_len is_ascii_digit xs) 0) parts.0)

abbrev step : ℕ → ℕ → ℕ
step n c = n * 10 + (c - 48)

-- a number that leaves room for so many digits more has room for one, and then for the others
pub room_one : (n m i : ℕ) → i < m → (n + 1) * 10 ^ (m - i) ≤ 10 ^ 19 → n * 10 + 10 ≤ 10 ^ 19
room_one n m i less room =
    let one : 1 ≤ m - i = omega arith in
    let ten : 10 ^ 1 ≤ 10 ^ (m - i) = pow-le-pow_right (omega arith) one in
    let wide : (n + 1) * 10 ^ 1 ≤ (n + 1) * 10 ^ (m - i) = mul-le-mul_left (n + 1) ten in
    omega (arith, wide, room)

pub room_left : (n d m i : ℕ) → d ≤ 9 → i < m → (n + 1) * 10 ^ (m - i) ≤ 10 ^ 19 → (n * 10 + d + 1) * 10 ^ (m - (i + 1)) ≤ 10 ^ 19
room_left n d m i digit less room =
    let k : ℕ = m - (i + 1) in
    let next : m - i ≡ suc k = omega arith in
    let all : 10 ^ (m - i) ≡ 10 * 10 ^ k = ap (λ j. 10 ^ j) next ∙ pow-succ' 10 k in
    let more : (n * 10 + d + 1) * 10 ^ k ≤ (n + 1) * 10 * 10 ^ k = mul-le-mul_right (10 ^ k) (omega arith) in
    let same : (n + 1) * 10 * 10 ^ k ≡ (n + 1) * 10 ^ (m - i) = mul_assoc (n + 1) 10 (10 ^ k) ∙ ap (λ x. (n + 1) * x) (sym all) in
    omega (arith, more, same, room)

-- and for fewer
pub room_behind : (n k m : ℕ) → k ≤ m → (n + 1) * 10 ^ m ≤ 10 ^ 19 → (n + 1) * 10 ^ k ≤ 10 ^ 19
room_behind n k m le room =
    let less : (n + 1) * 10 ^ k ≤ (n + 1) * 10 ^ m = mul-le-mul_left (n + 1) (pow-le-pow_right (omega arith) le) in
    omega (arith, less, room)

pub room_first : (m : ℕ) → m ≤ 19 → (0 + 1) * 10 ^ m ≤ 10 ^ 19
room_first m le = let less : 10 ^ m ≤ 10 ^ 19 = pow-le-pow_right (omega arith) le in omega (arith, less)

-- all bytes are digits where as many stand in front as there are
all_digits : (digits : List ℕ) → length digits ≤ prefix_len is_ascii_digit digits → list_all is_ascii_digit digits ≡ true
all_digits digits all = ap (list_all is_ascii_digit) (sym (take_all (prefix_len is_ascii_digit digits) digits all)) ∙ all_taken is_ascii_digit digits

number_whole : (digits : List ℕ) (k n : ℕ) → length digits ≤ k → n ≡ fold step 0 (take k digits) → n ≡ number digits
number_whole digits k n all is = is ∙ ap (fold step 0) (take_all k digits all)

pub short_is : (digits : List ℕ) (k n : ℕ) → k ≡ prefix_len is_ascii_digit digits → n ≡ fold step 0 (take k digits) → length digits ≤ k → length digits ≢ 0 → length digits ≤ 3 → Some (pos n) ≡ short_number digits
short_is digits k n count is all some few =
    let lower : nat_lt 0 (length digits) ≡ true = grind (arith, nat_tests, some) in
    let upper : nat_le (length digits) 3 ≡ true = grind (arith, nat_tests, few) in
    let passed : list_all is_ascii_digit digits ≡ true = all_digits digits (omega (arith, all, count)) in
    ap (λ x. Some (pos x)) (number_whole digits k n all is)
    ∙ sym (ap (λ b. cond (b && (nat_le (length digits) 3 && list_all is_ascii_digit digits)) (Some (pos (number digits))) None) lower
    ∙ ap (λ b. cond (b && list_all is_ascii_digit digits) (Some (pos (number digits))) None) upper
    ∙ ap (λ b. cond b (Some (pos (number digits))) None) passed)

pub short_below : (digits : List ℕ) (k n : ℕ) → k ≡ prefix_len is_ascii_digit digits → n ≡ fold step 0 (take k digits) → length digits ≤ k → length digits ≤ 3 → n < 1000
short_below digits k n count is all few =
    let below : number digits < 10 ^ 3 = number_short digits 3 (all_digits digits (omega (arith, all, count))) few in
    omega (arith, number_whole digits k n all is, below)

pub no_short : (digits : List ℕ) → prefix_len is_ascii_digit digits < length digits → None ≡ short_number digits
no_short digits less =
    let stop : list_all is_ascii_digit digits ≡ false = list_all_at is_ascii_digit digits (prefix_len is_ascii_digit digits) 0 less (prefix_len_stops is_ascii_digit digits 0 less) in
    let none : (nat_lt 0 (length digits) && (nat_le (length digits) 3 && list_all is_ascii_digit digits)) ≡ false = grind (arith, stop) in
    ap (λ b. cond b (Some (pos (number digits))) None) (sym none)

pub fraction_is : (digits : List ℕ) (front k : ℕ) → k ≡ prefix_len is_ascii_digit digits → k ≢ 0 → k ≤ length digits → option_map (counted_digits front) (fraction_at (46 ∷ digits)) ≡ Some (k, (fold step front (take k digits), drop k digits))
fraction_is digits front k is some within =
    let more : (prefix_len is_ascii_digit digits == 0) ≡ false = grind (arith, nat_tests, is) in
    let count : length (take k digits) ≡ k = omega (arith, length-take k digits) in
    ap (λ b. option_map (counted_digits front) (cond b None (Some (digits_at digits)))) more
    ∙ ap (λ j. Some (counted_digits front (take j digits, drop j digits))) (sym is)
    ∙ ap (λ n. Some (n, (fold step front (take k digits), drop k digits))) count

few_behind : (o : Option (List ℕ × List ℕ)) (negative : Bool) (whole : List ℕ) (k m : ℕ) (rest : List ℕ) (e : ℤ) → option_map (counted_digits (number whole)) o ≡ Some (k, (m, rest)) → exponent_of rest ≡ Some e → length whole + k ≢ 0 → option_map brief (o >>= λ f. exponent_of f.1 >>= λ e. with_digits negative whole f.0 e) ≡ Some (negative, (m, e -ℤ pos k))
few_behind None negative whole k m rest e h is some = absurd (cc)
few_behind (Some f) negative whole k m rest e h is some =
    let same : counted_digits (number whole) f ≡ (k, (m, rest)) = cc in
    let a : length f.0 ≡ k = ap (λ (t : ℕ × (ℕ × List ℕ)). t.0) same in
    let b : fold step (number whole) f.0 ≡ m = ap (λ (t : ℕ × (ℕ × List ℕ)). t.1.0) same in
    let c : f.1 ≡ rest = ap (λ (t : ℕ × (ℕ × List ℕ)). t.1.1) same in
    let exponent : exponent_of f.1 ≡ Some e = ap exponent_of c ∙ is in
    let digit : (length whole + length f.0 == 0) ≡ false = grind (arith, nat_tests, a, some) in
    let all : number (whole ++ f.0) ≡ m = fold-append step 0 whole f.0 ∙ b in
    ap (λ (x : Option ℤ). option_map brief (x >>= λ e. with_digits negative whole f.0 e)) exponent
    ∙ ap (λ t. option_map brief (cond t None (Some (record { negative = negative; whole = whole; fraction = f.0; exponent = e })))) digit
    ∙ ap (λ n. Some (negative, (n, e -ℤ pos (length f.0)))) all
    ∙ ap (λ j. Some (negative, (m, e -ℤ pos j))) a

abbrev behind_sign : ℕ → Bool → List ℕ × List ℕ → Option Decimal
behind_sign n negative w = cond (nat_lt 64 n) None (fraction_at w.1 >>= λ f. exponent_of f.1 >>= λ e. with_digits negative w.0 f.0 e)

starts : (text : List ℕ) → parts_of text ≡ behind_sign (length text) (sign_at text).0 (digits_at (sign_at text).1)
unfolding parts_of
starts text = refl

-- the parts of a text whose digits were read
pub few_are : (text : List ℕ) (s : Bool × List ℕ) (w n k m : ℕ) (rest : List ℕ) (e : ℤ) → s ≡ sign_at text → length text ≤ 64 → w ≡ prefix_len is_ascii_digit s.1 → w ≤ length s.1 → n ≡ fold step 0 (take w s.1) → option_map (counted_digits n) (fraction_at (drop w s.1)) ≡ Some (k, (m, rest)) → exponent_of rest ≡ Some e → w + k ≢ 0 → option_map brief (parts_of text) ≡ Some (s.0, (m, e -ℤ pos k))
few_are text s w n k m rest e sign short count within is fraction exponent some =
    let small : nat_lt 64 (length text) ≡ false = grind (arith, nat_tests) in
    let whole : List ℕ = take w s.1 in
    let long : length whole ≡ w = omega (arith, length-take w s.1) in
    let front : option_map (counted_digits (number whole)) (fraction_at (drop w s.1)) ≡ Some (k, (m, rest)) = subst (λ x. option_map (counted_digits x) (fraction_at (drop w s.1)) ≡ Some (k, (m, rest))) is fraction in
    ap (option_map brief) (starts text
    ∙ ap (λ (t : Bool × List ℕ). behind_sign (length text) t.0 (digits_at t.1)) (sym sign)
    ∙ ap (λ j. behind_sign (length text) s.0 (take j s.1, drop j s.1)) (sym count)
    ∙ ap (λ b. cond b None (fraction_at (drop w s.1) >>= λ f. exponent_of f.1 >>= λ e. with_digits s.0 whole f.0 e)) small)
    ∙ few_behind (fraction_at (drop w s.1)) s.0 whole k m rest e front exponent (λ none. some (omega (arith, none, long)))

pub few_limited : (o : Option Decimal) (b : Bool) (m : ℕ) (p : ℤ) → option_map brief o ≡ Some (b, (m, p)) → min (scaled m (p +ℤ pos 16)) (10 ^ 28) ≡ limited o
few_limited None b m p h = absurd (cc)
few_limited (Some d) b m p h =
    let same : brief d ≡ (b, (m, p)) = cc in
    sym (ap (λ (t : Bool × (ℕ × ℤ)). min (scaled t.1.0 (t.1.1 +ℤ pos 16)) (10 ^ 28)) same)

kept_with : (none : Bool) (negative : Bool) (w f : List ℕ) (e : ℤ) (d : Decimal) → cond none None (Some (record { negative = negative; whole = w; fraction = f; exponent = e })) ≡ Some d → d.negative ≡ negative
kept_with true negative w f e d h = absurd (cc)
kept_with false negative w f e d h =
    let all : Decimal = record { negative = negative; whole = w; fraction = f; exponent = e } in
    let same : all ≡ d = cc in
    sym (ap (λ (x : Decimal). x.negative) same)

kept_exponent : (o : Option ℤ) (negative : Bool) (w f : List ℕ) (d : Decimal) → (o >>= λ e. with_digits negative w f e) ≡ Some d → d.negative ≡ negative
kept_exponent None negative w f d h = absurd (cc)
kept_exponent (Some e) negative w f d h = kept_with (length w + length f == 0) negative w f e d h

kept_fraction : (o : Option (List ℕ × List ℕ)) (negative : Bool) (w : List ℕ) (d : Decimal) → (o >>= λ f. exponent_of f.1 >>= λ e. with_digits negative w f.0 e) ≡ Some d → d.negative ≡ negative
kept_fraction None negative w d h = absurd (cc)
kept_fraction (Some f) negative w d h = kept_exponent (exponent_of f.1) negative w f.0 d h

kept_sign : (long : Bool) (negative : Bool) (w : List ℕ × List ℕ) (d : Decimal) → cond long None (fraction_at w.1 >>= λ f. exponent_of f.1 >>= λ e. with_digits negative w.0 f.0 e) ≡ Some d → d.negative ≡ negative
kept_sign true negative w d h = absurd (cc)
kept_sign false negative w d h = kept_fraction (fraction_at w.1) negative w.0 d h

-- the ticks of what has parts or not, where the sign is known
ticks_from : (o : Option Decimal) (v : ℕ) (b : Bool) → ((d : Decimal) → o ≡ Some d → d.negative ≡ b) → v ≡ limited o → v < 10 ^ 28 → (o >>= λ d. cond (nat_lt (magnitude d) (10 ^ 28)) (Some (signed d.negative (18 * magnitude d))) None) ≡ Some (signed b (18 * v))
ticks_from None v b sign is less = absurd (omega arith)
ticks_from (Some d) v b sign is less =
    let low : nat_lt (magnitude d) (10 ^ 28) ≡ true = grind (arith, nat_tests, is, less) in
    let same : magnitude d ≡ v = omega arith in
    ap (λ t. cond t (Some (signed d.negative (18 * magnitude d))) None) low ∙ ap (λ k. Some (signed d.negative (18 * k))) same ∙ ap (λ n. Some (signed n (18 * v))) (sign d refl)

none_from : (o : Option Decimal) (v : ℕ) → v ≡ limited o → 10 ^ 28 ≤ v → (o >>= λ d. cond (nat_lt (magnitude d) (10 ^ 28)) (Some (signed d.negative (18 * magnitude d))) None) ≡ None
none_from None v is more = refl
none_from (Some d) v is more =
    let high : nat_lt (magnitude d) (10 ^ 28) ≡ false = grind (arith, nat_tests, is, more) in
    ap (λ t. cond t (Some (signed d.negative (18 * magnitude d))) None) high

-- the sign of a text that has parts
text_sign : (text : List ℕ) (d : Decimal) → parts_of text ≡ Some d → d.negative ≡ (sign_at text).0
text_sign text d has = kept_sign (nat_lt 64 (length text)) (sign_at text).0 (digits_at (sign_at text).1) d (sym (starts text) ∙ has)

sign_from : (o : Option Decimal) (b s : Bool) (m : ℕ) (p : ℤ) → ((d : Decimal) → o ≡ Some d → d.negative ≡ s) → option_map brief o ≡ Some (b, (m, p)) → b ≡ s
sign_from None b s m p kept h = absurd (cc)
sign_from (Some d) b s m p kept h =
    let same : brief d ≡ (b, (m, p)) = cc in
    sym (ap (λ (t : Bool × (ℕ × ℤ)). t.0) same) ∙ kept d refl

pub few_sign : (text : List ℕ) (b : Bool) (m : ℕ) (p : ℤ) → option_map brief (parts_of text) ≡ Some (b, (m, p)) → b ≡ (sign_at text).0
few_sign text b m p h = sign_from (parts_of text) b (sign_at text).0 m p (text_sign text) h

pub ticks_below : (text : List ℕ) (b : Bool) (v : ℕ) → b ≡ (sign_at text).0 → v ≡ limited (parts_of text) → v < 10 ^ 28 → ticks_of text ≡ Some (signed b (18 * v))
unfolding ticks_of
ticks_below text b v sign is less =
    ticks_from (parts_of text) v b (λ d has. text_sign text d has ∙ sym sign) is less

pub no_ticks : (text : List ℕ) (v : ℕ) → v ≡ limited (parts_of text) → 10 ^ 28 ≤ v → ticks_of text ≡ None
unfolding ticks_of
no_ticks text v is more = none_from (parts_of text) v is more

bound : (t : Bool) (y : ℕ) (b : Bool) → (cond t (Some y) None >>= λ n. Some (signed b n)) ≡ cond t (Some (signed b y)) None
bound true y b = refl
bound false y b = refl

places_from : (k : ℕ) (o : Option Decimal) (b : Bool) (m : ℕ) (p : ℤ) → option_map brief o ≡ Some (b, (m, p)) → (o >>= λ d. rounded_near k d >>= λ n. Some (signed d.negative n)) ≡ cond (nat_lt (scaled m (p +ℤ pos 16)) (10 ^ 28)) (Some (signed b (scaled m (p +ℤ pos k)))) None
places_from k None b m p h = absurd (cc)
places_from k (Some d) b m p h =
    let same : brief d ≡ (b, (m, p)) = cc in
    bound (nat_lt (magnitude d) (10 ^ 28)) (rounded_magnitude k d) d.negative
    ∙ ap (λ (t : Bool × (ℕ × ℤ)). cond (nat_lt (scaled t.1.0 (t.1.1 +ℤ pos 16)) (10 ^ 28)) (Some (signed t.0 (scaled t.1.0 (t.1.1 +ℤ pos k)))) None) same

pub places_few : (k : ℕ) (text : List ℕ) (b : Bool) (m : ℕ) (p : ℤ) → option_map brief (parts_of text) ≡ Some (b, (m, p)) → places_of k text ≡ (if nat_lt (scaled m (p +ℤ pos 16)) (10 ^ 28) then Some (signed b (scaled m (p +ℤ pos k))) else None)
unfolding places_of
places_few k text b m p h = places_from k (parts_of text) b m p h

pub near_few : (k m v : ℕ) (p : ℤ) (b : Bool) → k ≤ 16 → nat_lt (scaled m (p +ℤ pos 16)) (10 ^ 28) ≡ true → v ≡ min (scaled m (p +ℤ pos k)) (10 ^ 28) → Some (signed b v) ≡ (if nat_lt (scaled m (p +ℤ pos 16)) (10 ^ 28) then Some (signed b (scaled m (p +ℤ pos k))) else None)
near_few k m v p b le low at =
    let less : scaled m (p +ℤ pos 16) < 10 ^ 28 = grind (arith, nat_tests, low) in
    let fewer : scaled m (p +ℤ pos k) ≤ scaled m (p +ℤ pos 16) = scaled_le m (p +ℤ pos k) (p +ℤ pos 16) (omega (arith, ints, le)) in
    let same : v ≡ scaled m (p +ℤ pos k) = omega (arith, fewer, less, at) in
    ap (λ x. Some (signed b x)) same ∙ ap (λ t. cond t (Some (signed b (scaled m (p +ℤ pos k)))) None) (sym low)

-- a number of at most 18 digits times a power of ten below 1
pub low_power : (m : ℕ) (q : ℤ) → m < 10 ^ 18 → q <ℤ pos 0 → true ≡ nat_lt (scaled m q) (10 ^ 28)
low_power m q few less =
    let le : scaled m q ≤ m * 10 ^ 0 = scaled_le m q (pos 0) (omega (arith, ints, less)) in
    grind (arith, nat_tests, le, few)

-- times one above ten to the 28th
pub high_power : (m : ℕ) (q : ℤ) → pos 28 <ℤ q → (m == 0) ≡ nat_lt (scaled m q) (10 ^ 28)
high_power m (pos k) more =
    let above : 28 < k = omega (arith, ints, more) in
    ⊎_elim (λ (none : m < 1). let zero : m ≡ 0 = omega arith in rw zero (grind (arith, nat_tests)))
    (λ (some : 1 ≤ m). let past_it : 10 ^ 28 ≤ m * 10 ^ k = past m k 28 above (λ zero. omega (arith, zero, some)) in grind (arith, nat_tests, past_it, some))
    (cases_lt m 1)
high_power m (negsuc k) more = absurd (omega (arith, ints, more))

-- and times one between
pub mid_power : (m j : ℕ) (q : ℤ) → pos 0 ≤ℤ q → q +ℤ pos j ≡ pos 28 → nat_lt m (10 ^ j) ≡ nat_lt (scaled m q) (10 ^ 28)
mid_power m j (pos k) low is =
    let rest : j ≡ 28 - k = omega (arith, ints, is) in
    let le : k ≤ 28 = omega (arith, ints, is) in
    rw rest (⊎_elim (λ (less : m < 10 ^ (28 - k)). let below = within m k 28 le less in grind (arith, nat_tests, less, below))
    (λ (more : 10 ^ (28 - k) ≤ m). let above = reached m k 28 le more in grind (arith, nat_tests, more, above))
    (cases_lt m (10 ^ (28 - k))))
mid_power m j (negsuc k) low is = absurd (omega (arith, ints, low))

pub few_rounded : (n k : ℕ) → n < 10 ^ 18 → half_up n (10 ^ k) ≡ min (half_up n (10 ^ k)) (10 ^ 28)
few_rounded n k few = let less : half_up n (10 ^ k) ≤ n = half_le n (10 ^ k) (one-le-pow k 10 (omega arith)) in omega arith

pub none_rounded : (n k : ℕ) → n < 10 ^ 18 → 18 < k → 0 ≡ min (half_up n (10 ^ k)) (10 ^ 28)
none_rounded n k few more =
    let nineteen : 19 ≤ k = omega arith in
    let top : 10 ^ 19 ≤ 10 ^ k = pow-le-pow_right (omega arith) nineteen in
    let none : half_up n (10 ^ k) ≡ 0 = div-eq_of_lt {n = 2 * n + 10 ^ k} {m = 2 * 10 ^ k} (omega arith) in
    omega arith

pub ten_small : (k : ℕ) → k ≤ 18 → 10 ^ k ≤ 10 ^ 18
ten_small k small = pow-le-pow_right (omega arith) small
