-- Zeros with an exponent in front of a text.
use Rattle.std.proofs.Common.{◌≡◌, ℕ, ℤ, pos, negsuc, suc, ◌*◌, ◌^◌, ◌<◌, ◌≤◌, Bool, true, false, cond, not, ◌==◌, ◌&&◌, List, [], ◌∷◌, ◌++◌, length, Option, Some, None, refl, sym, ap, ◌∙◌, subst, arith, nat_lt, nat_le, unsigned_abs, append_assoc}
use Rattle.std.specs.Prelude.{◌+ℤ◌, ◌-ℤ◌, neg_ℤ, ◌||◌}
use Rattle.std.specs.List.{list_all}
use Rattle.std.specs.Char.{is_ascii_digit}
use Rattle.std.proofs.lemmas.List.{length-append}
use Rattle.std.proofs.lemmas.Bool.Decides.{nat_tests}
use Rattle.lists_and_answers.specs.Options.{◌>>=◌}
use Rattle.geotransform.specs.Decimal.{number, scaled, signed, sign_at, short_number, is_exponent_mark, exponent_behind, Decimal, parts_of, places_of, rounded_near, magnitude, rounded_magnitude}
use Rattle.geotransform.proofs.Numbers.{half_of_few}
use Rattle.vrt_profile.specs.Fields.{near_by, near_number}
use Rattle.vrt_profile.specs.Fronts.{is_inner, DigitRun, MicrosFront}
use Rattle.vrt_profile.specs.Values.{million}
use Rattle.vrt_profile.proofs.ShortNumbers.{digit_inner, all_by, all_joined, not_colon, not_comma, trim_inner, digits_all, guard, Signed, signed_at}

-- what holds of both marks of an exponent holds of each
by_first : (P : ℕ → Type 0) (c : ℕ) (b : Bool) → b ≡ (c == 101) → (b || (c == 69)) ≡ true → P 101 → P 69 → P c
by_first P c true e mark small capital = let same : 101 ≡ c = grind (arith, nat_tests, e) in subst P same small
by_first P c false e mark small capital = let same : 69 ≡ c = grind (arith, nat_tests, mark) in subst P same capital

by_mark : (P : ℕ → Type 0) (c : ℕ) → is_exponent_mark c ≡ true → P 101 → P 69 → P c
by_mark P c mark small capital = by_first P c (c == 101) refl mark small capital

-- the exponent that one to three digits write
short_digits : (digits : List ℕ) → list_all is_ascii_digit digits ≡ true → 0 < length digits → length digits ≤ 3 → short_number digits ≡ Some (pos (number digits))
short_digits digits all some few =
    let lower : nat_lt 0 (length digits) ≡ true = grind (arith, nat_tests, some) in
    let upper : nat_le (length digits) 3 ≡ true = grind (arith, nat_tests, few) in
    ap (λ b. cond (b && (nat_le (length digits) 3 && list_all is_ascii_digit digits)) (Some (pos (number digits))) None) lower
    ∙ ap (λ b. cond (b && list_all is_ascii_digit digits) (Some (pos (number digits))) None) upper
    ∙ ap (λ b. cond b (Some (pos (number digits))) None) all

exponent_is : (text digits : List ℕ) (negative : Bool) → sign_at text ≡ (negative, digits) → list_all is_ascii_digit digits ≡ true → 0 < length digits → length digits ≤ 3 → exponent_behind text ≡ Some (signed negative (number digits))
exponent_is text digits negative sign all some few =
    ap (λ (s : Bool × List ℕ). short_number s.1 >>= λ n. Some (cond s.0 (neg_ℤ n) n)) sign
    ∙ ap (λ (o : Option ℤ). o >>= λ n. Some (cond negative (neg_ℤ n) n)) (short_digits digits all some few)

abbrev zero_to : ℤ → Decimal
zero_to e = record { negative = false; whole = 48 ∷ []; fraction = []; exponent = e }

parts_behind : (text : List ℕ) (e : ℤ) → exponent_behind text ≡ Some e → length text ≤ 4 → ◌≡◌ {A = Option Decimal} (cond (nat_lt 64 (length (48 ∷ 101 ∷ text))) None (exponent_behind text >>= λ e. Some (zero_to e))) (Some (zero_to e))
parts_behind text e exponent few =
    let short : nat_lt 64 (length (48 ∷ 101 ∷ text)) ≡ false = grind (arith, nat_tests, few) in
    ap (λ (o : Option ℤ). cond (nat_lt 64 (length (48 ∷ 101 ∷ text))) None (o >>= λ e. Some (zero_to e))) exponent
    ∙ ap (λ b. cond b None (Some (zero_to e))) short

zero_parts : (c : ℕ) (text : List ℕ) (e : ℤ) → is_exponent_mark c ≡ true → exponent_behind text ≡ Some e → length text ≤ 4 → parts_of (48 ∷ c ∷ text) ≡ Some (zero_to e)
unfolding parts_of
zero_parts c text e mark exponent few =
    by_mark (λ m. parts_of (48 ∷ m ∷ text) ≡ Some (zero_to e)) c mark (parts_behind text e exponent few) (parts_behind text e exponent few)

-- a zero stays zero
still_zero : (e : ℤ) → scaled 0 e ≡ 0
still_zero (pos k) = omega arith
still_zero (negsuc k) = half_of_few [] (suc k) refl (omega arith)

zero_at : (e : ℤ) (k : ℕ) → rounded_magnitude k (zero_to e) ≡ 0
zero_at e k = still_zero ((e -ℤ pos 0) +ℤ pos k)

zero_places : (c : ℕ) (text : List ℕ) (e : ℤ) → is_exponent_mark c ≡ true → exponent_behind text ≡ Some e → length text ≤ 4 → places_of 6 (48 ∷ c ∷ text) ≡ Some (pos 0)
unfolding places_of
zero_places c text e mark exponent few =
    let p : Decimal = zero_to e in
    let none : magnitude p ≡ 0 = zero_at e 16 in
    let wide : magnitude p < 10 ^ 28 = omega (arith, none) in
    let near : nat_lt (magnitude p) (10 ^ 28) ≡ true = grind (arith, nat_tests, wide) in
    let value : rounded_near 6 p ≡ Some 0 = guard (nat_lt (magnitude p) (10 ^ 28)) (rounded_magnitude 6 p) near ∙ ap (λ n. Some n) (zero_at e 6) in
    ap (λ p. p >>= λ d. rounded_near 6 d >>= λ n. Some (signed d.negative n)) (zero_parts c text e mark exponent few)
    ∙ ap (λ v. v >>= λ n. Some (signed false n)) value

near_zero : (text : List ℕ) → list_all is_inner text ≡ true → places_of 6 text ≡ Some (pos 0) → near_number text ≡ Some (pos 0)
near_zero text inner places =
    let bound : 0 < 5000000000 * million = omega arith in
    let low : nat_lt (unsigned_abs (pos 0)) (5000000000 * million) ≡ true = grind (arith, nat_tests, bound) in
    ap (λ t. near_by (places_of 6 t)) (trim_inner text inner)
    ∙ ap near_by places
    ∙ guard (nat_lt (unsigned_abs (pos 0)) (5000000000 * million)) (pos 0) low

zero_inner : (c : ℕ) (text : List ℕ) → is_exponent_mark c ≡ true → list_all is_inner text ≡ true → list_all is_inner (48 ∷ c ∷ text) ≡ true
zero_inner c text mark inner = by_mark (λ m. list_all is_inner (48 ∷ m ∷ text) ≡ true) c mark inner inner

-- a zero, a mark, maybe a sign, and one to three digits
marked_zero : (text marked exponent rest : List ℕ) (negative : Bool) (behind : List ℕ) (c n count : ℕ) → text ≡ 48 ∷ marked → is_exponent_mark c ≡ true → marked ≡ c ∷ exponent → Signed exponent negative behind → DigitRun behind n count rest → 0 < count → count ≤ 3 → MicrosFront text (pos 0) rest
marked_zero text marked exponent rest negative behind c n count zero mark first s d some few =
    let more : 0 < length d.digits = omega (arith, some, d.size) in
    let short : length d.digits ≤ 3 = omega (arith, few, d.size) in
    let body : List ℕ = s.sign ++ d.digits in
    let size : length (s.sign ++ d.digits) ≤ 4 = omega (arith, length-append s.sign d.digits, s.short, short) in
    let sign : sign_at body ≡ (negative, d.digits) = s.same d.digits d.digits [] (digits_all d.digits d.all) more in
    let power : exponent_behind body ≡ Some (signed negative (number d.digits)) = exponent_is body d.digits negative sign d.all more short in
    let inner : list_all is_inner (48 ∷ c ∷ body) ≡ true = zero_inner c body mark (all_joined is_inner s.sign d.digits s.inner (all_by is_ascii_digit is_inner d.digits digit_inner d.all)) in
    let places : places_of 6 (48 ∷ c ∷ body) ≡ Some (pos 0) = zero_places c body (signed negative (number d.digits)) mark power size in
    record {
      front = 48 ∷ c ∷ body;
      whole = zero ∙ ap (λ t. 48 ∷ t) first ∙ ap (λ t. 48 ∷ c ∷ t) (s.whole ∙ ap (λ t. s.sign ++ t) d.whole ∙ sym (append_assoc s.sign d.digits rest));
      colons = all_by is_inner (λ c. not (c == 58)) (48 ∷ c ∷ body) not_colon inner;
      commas = all_by is_inner (λ c. not (c == 44)) (48 ∷ c ∷ body) not_comma inner;
      value = near_zero (48 ∷ c ∷ body) inner places;
      places = places;
    }

pub zero_front : (text marked exponent behind rest : List ℕ) (c n count : ℕ) → text ≡ 48 ∷ marked → is_exponent_mark c ≡ true → marked ≡ c ∷ exponent → behind ≡ (sign_at exponent).1 → DigitRun behind n count rest → 0 < count → count ≤ 3 → MicrosFront text (pos 0) rest
zero_front text marked exponent behind rest c n count zero mark first sign d some few =
    let s : Signed exponent (sign_at exponent).0 behind = subst (λ (t : List ℕ). Signed exponent (sign_at exponent).0 t) (sym sign) (signed_at exponent) in
    marked_zero text marked exponent rest (sign_at exponent).0 behind c n count zero mark first s d some few
