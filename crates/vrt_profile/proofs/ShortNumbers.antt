-- Short numbers of a lookup table: what is read of their digits alone is what the whole pieces say.
use Rattle.std.proofs.Common.{◌≡◌, ◌≢◌, ℕ, ℤ, pos, suc, ◌+◌, ◌*◌, ◌^◌, ◌<◌, ◌≤◌, ◌-◌, Bool, true, false, cond, not, ◌==◌, ◌&&◌, List, [], ◌∷◌, ◌++◌, length, take, drop, get_or, Option, Some, None, refl, sym, ap, ◌∙◌, arith, if◌then◌else◌, subst, nat_lt, unsigned_abs, append_assoc, append-nil}
use Rattle.std.specs.List.{list_all, prefix_len, suffix_len}
use Rattle.std.specs.Char.{is_ascii_digit}
use Rattle.std.proofs.Math.Seq.{take-append_seam, drop-append_seam, take-length, drop-length}
use Rattle.std.proofs.lemmas.List.{length-append, length-drop, take-append-drop, drop_more}
use Rattle.std.proofs.lemmas.List.Folds.{list_all-append}
use Rattle.std.proofs.lemmas.List.Sums.{AllPass-from_list_all, suffix_len-take_no, prefix_len_stops}
use Rattle.std.proofs.lemmas.List.Elements.{All-get_or}
use Rattle.std.proofs.lemmas.Bool.Decides.{nat_tests}
use Rattle.std.proofs.lemmas.Int.{ints}
use Rattle.std.proofs.lemmas.Nat.{pow-add}
use Rattle.std.proofs.Math.Nat.{add-mul, mul_assoc, mul-le-mul_right}
use Rattle.std.specs.Prelude.{◌+ℤ◌, ◌-ℤ◌}
use Rattle.lists_and_answers.specs.Options.{◌>>=◌}
use Rattle.lists_and_answers.specs.Texts.{is_white}
use Rattle.geotransform.specs.Decimal.{number, scaled, signed, sign_at, digits_at, fraction_at, exponent_of, Decimal, parts_of, places_of, exact, whole_of, rounded_near, magnitude, rounded_magnitude}
use Rattle.geotransform.proofs.Numbers.{number_short, number-append, all_taken}
use Rattle.vrt_markup.specs.Items.{option_case}
use Rattle.vrt_profile.specs.Fields.{length_before, cut_by, cut_at, trim, trim_end, near_by, near_number, pair_of}
use Rattle.vrt_profile.specs.Fronts.{first_piece, is_inner, is_of_key, DigitRun, DigitsFront, FractionFront, DecimalFront, MicrosFront, pair_with, PairFront}
use Rattle.vrt_profile.specs.declared.rectangle.LutPair.{LutPair}
use Rattle.vrt_profile.specs.Values.{million}
use Rattle.vrt_profile.proofs.Rules.{signed_size}
use Rattle.vrt_profile.proofs.DigitRuns.{run_digits}

pub digit_inner : (c : ℕ) → is_ascii_digit c ≡ true → is_inner c ≡ true
digit_inner c h = grind (arith, nat_tests, h)

and_left : (a b : Bool) → a && b ≡ true → a ≡ true
and_left true b h = refl
and_left false b h = absurd cc

and_right : (a b : Bool) → a && b ≡ true → b ≡ true
and_right true b h = h
and_right false b h = absurd cc

and_both : (a b : Bool) → a ≡ true → b ≡ true → a && b ≡ true
and_both true b g h = h
and_both false b g h = absurd cc

pub all_by : (p q : ℕ → Bool) (xs : List ℕ) → ((c : ℕ) → p c ≡ true → q c ≡ true) → list_all p xs ≡ true → list_all q xs ≡ true
all_by p q [] f h = refl
all_by p q (x ∷ xs) f h = and_both (q x) (list_all q xs) (f x (and_left (p x) (list_all p xs) h)) (all_by p q xs f (and_right (p x) (list_all p xs) h))

pub not_colon : (c : ℕ) → is_inner c ≡ true → not (c == 58) ≡ true
not_colon c h = and_left (not (c == 58)) _ h

pub not_comma : (c : ℕ) → is_inner c ≡ true → not (c == 44) ≡ true
not_comma c h = and_left (not (c == 44)) (not (is_white c)) (and_right (not (c == 58)) _ h)

not_true : (b : Bool) → not b ≡ true → b ≡ false
not_true true e = absurd cc
not_true false e = refl

not_white : (c : ℕ) → is_inner c ≡ true → is_white c ≡ false
not_white c h = not_true (is_white c) (and_right (not (c == 44)) (not (is_white c)) (and_right (not (c == 58)) _ h))

-- such a text has no white space at its ends
front_bare : (xs : List ℕ) → list_all is_inner xs ≡ true → prefix_len is_white xs ≡ 0
front_bare [] h = refl
front_bare (x ∷ xs) h = ap (λ b. cond b (1 + prefix_len is_white xs) 0) (not_white x (and_left (is_inner x) (list_all is_inner xs) h))

end_bare : (x : ℕ) (xs : List ℕ) → list_all is_inner (x ∷ xs) ≡ true → suffix_len is_white (x ∷ xs) ≡ 0
end_bare x xs h =
    let last : is_inner (get_or (x ∷ xs) (length (x ∷ xs) - 1) 0) ≡ true = All-get_or (λ c. is_inner c ≡ true) (x ∷ xs) (length (x ∷ xs) - 1) 0 (omega arith) (AllPass-from_list_all is_inner (x ∷ xs) h) in
    ap (suffix_len is_white) (sym (take-length (x ∷ xs))) ∙ suffix_len-take_no is_white (x ∷ xs) (length (x ∷ xs)) 0 (omega arith) (omega arith) (not_white (get_or (x ∷ xs) (length (x ∷ xs) - 1) 0) last)

pub trim_inner : (xs : List ℕ) → list_all is_inner xs ≡ true → trim xs ≡ xs
trim_inner [] h = refl
trim_inner (x ∷ xs) h =
    let whole : length (x ∷ xs) - 0 ≡ length (x ∷ xs) = omega arith in
    ap (λ n. trim_end (drop n (x ∷ xs))) (front_bare (x ∷ xs) h)
    ∙ ap (λ n. take (length (x ∷ xs) - n) (x ∷ xs)) (end_bare x xs h)
    ∙ ap (λ n. take n (x ∷ xs)) whole
    ∙ take-length (x ∷ xs)

-- digits are all digits, with nothing behind them
prefix_all : (xs : List ℕ) → list_all is_ascii_digit xs ≡ true → prefix_len is_ascii_digit xs ≡ length xs
prefix_all [] h = refl
prefix_all (x ∷ xs) h =
    ap (λ b. cond b (1 + prefix_len is_ascii_digit xs) 0) (and_left (is_ascii_digit x) (list_all is_ascii_digit xs) h)
    ∙ ap (λ n. 1 + n) (prefix_all xs (and_right (is_ascii_digit x) (list_all is_ascii_digit xs) h))
    ∙ omega arith

pub digits_all : (xs : List ℕ) → list_all is_ascii_digit xs ≡ true → digits_at xs ≡ (xs, [])
digits_all xs h =
    ap (λ n. (take n xs, drop n xs)) (prefix_all xs h)
    ∙ ap (λ d. (take (length xs) xs, d)) (drop-length xs)
    ∙ ap (λ t. (t, [])) (take-length xs)

-- what is read of a sign and digits
abbrev parts_by : List ℕ → Bool × List ℕ → List ℕ × List ℕ → Option Decimal
parts_by text s w = if nat_lt 64 (length text) then None else (do
  f ← fraction_at w.1
  e ← exponent_of f.1
  if length w.0 + length f.0 == 0 then None else Some (record { negative = s.0; whole = w.0; fraction = f.0; exponent = e }))

guards : {A : Type 0} (a b : Bool) (x : Option A) → a ≡ false → b ≡ false → cond a None (cond b None x) ≡ x
guards true b x g h = absurd cc
guards false true x g h = absurd cc
guards false false x g h = refl

abbrev decimal : Bool → List ℕ → List ℕ → Decimal
decimal negative digits fraction = record { negative = negative; whole = digits; fraction = fraction; exponent = pos 0 }

abbrev parts_then : List ℕ → Bool → List ℕ → Option (List ℕ × List ℕ) → Option Decimal
parts_then text negative digits o = if nat_lt 64 (length text) then None else (do
  f ← o
  e ← exponent_of f.1
  if length digits + length f.0 == 0 then None else Some (record { negative = negative; whole = digits; fraction = f.0; exponent = e }))

parts_at : (text body digits tail fraction : List ℕ) (negative : Bool) → sign_at text ≡ (negative, body) → digits_at body ≡ (digits, tail) → fraction_at tail ≡ Some (fraction, []) → length text ≤ 64 → 0 < length digits → parts_of text ≡ Some (decimal negative digits fraction)
unfolding parts_of
parts_at text body digits tail fraction negative sign cut behind short some =
    ap (λ s. parts_by text s (digits_at s.1)) sign
    ∙ ap (λ w. parts_by text (negative, body) w) cut
    ∙ ap (parts_then text negative digits) behind
    ∙ guards (nat_lt 64 (length text)) (length digits + length fraction == 0) (Some (decimal negative digits fraction)) (grind (arith, nat_tests, short)) (grind (arith, nat_tests, some))

pub guard : {A : Type 0} (b : Bool) (x : A) → b ≡ true → cond b (Some x) None ≡ Some x
guard true x h = refl
guard false x h = absurd cc

-- the digits of a number and of its fraction, as units of a place behind the last of them
grown_by : (a b p q r : ℕ) → p * q ≡ r → (a * p + b) * q ≡ a * r + b * q
grown_by a b p q r e = add-mul (a * p) b q ∙ ap (λ n. n + b * q) (mul_assoc a p q ∙ ap (λ n. a * n) e)

places : (k n : ℕ) → k ≤ n → 10 ^ k * 10 ^ (n - k) ≡ 10 ^ n
places k n le = sym (pow-add 10 k (n - k)) ∙ ap (λ m. 10 ^ m) (omega (arith, le))

magnitude_is : (n : ℕ) (negative : Bool) (digits fraction : List ℕ) → length fraction ≤ n → rounded_magnitude n (decimal negative digits fraction) ≡ number digits * 10 ^ n + number fraction * 10 ^ (n - length fraction)
magnitude_is n negative digits fraction le =
    let power : (pos 0 -ℤ pos (length fraction)) +ℤ pos n ≡ pos (n - length fraction) = omega (arith, ints, le) in
    ap (scaled (number (digits ++ fraction))) power
    ∙ ap (λ m. m * 10 ^ (n - length fraction)) (number-append digits fraction)
    ∙ grown_by (number digits) (number fraction) (10 ^ length fraction) (10 ^ (n - length fraction)) (10 ^ n) (places (length fraction) n le)

-- a fraction is below a whole
below_whole : (n : ℕ) (fraction : List ℕ) → list_all is_ascii_digit fraction ≡ true → length fraction ≤ n → number fraction * 10 ^ (n - length fraction) ≤ 10 ^ n
below_whole n fraction all le =
    let small : number fraction < 10 ^ length fraction = number_short fraction (length fraction) all (omega arith) in
    let product : number fraction * 10 ^ (n - length fraction) ≤ 10 ^ length fraction * 10 ^ (n - length fraction) = mul-le-mul_right (10 ^ (n - length fraction)) (omega (arith, small)) in
    omega (arith, product, places (length fraction) n le)

places_decimal : (text rest : List ℕ) (m : ℕ) (number_text : List ℕ) (negative : Bool) (d : DecimalFront text m rest) → sign_at number_text ≡ (negative, d.body) → length number_text ≤ 64 → places_of 6 number_text ≡ Some (signed negative m)
unfolding places_of
places_decimal text rest m t negative d sign short =
    let p : Decimal = decimal negative d.digits d.fraction in
    let few : length d.fraction ≤ 16 = omega (arith, d.few_behind) in
    let small : number d.digits < 10 ^ 9 = number_short d.digits 9 d.all d.few in
    let wide : magnitude p < 10 ^ 28 = omega (arith, magnitude_is 16 negative d.digits d.fraction few, below_whole 16 d.fraction d.all_behind few, small) in
    let near : nat_lt (magnitude p) (10 ^ 28) ≡ true = grind (arith, nat_tests, wide) in
    let value : rounded_near 6 p ≡ Some m = guard (nat_lt (magnitude p) (10 ^ 28)) (rounded_magnitude 6 p) near ∙ ap (λ n. Some n) (magnitude_is 6 negative d.digits d.fraction d.few_behind ∙ sym d.value) in
    ap (λ p. p >>= λ d. rounded_near 6 d >>= λ n. Some (signed d.negative n)) (parts_at t d.body d.digits d.tail d.fraction negative sign d.cut d.behind short d.some)
    ∙ ap (λ v. v >>= λ n. Some (signed negative n)) value

near_decimal : (text rest : List ℕ) (m : ℕ) (number_text : List ℕ) (negative : Bool) (d : DecimalFront text m rest) → list_all is_inner number_text ≡ true → places_of 6 number_text ≡ Some (signed negative m) → near_number number_text ≡ Some (signed negative m)
near_decimal text rest m t negative d inner places =
    let small : number d.digits < 10 ^ 9 = number_short d.digits 9 d.all d.few in
    let size = signed_size negative m in
    let bound : m < 5000000000 * million = omega (arith, d.value, below_whole 6 d.fraction d.all_behind d.few_behind, small) in
    let low : nat_lt (unsigned_abs (signed negative m)) (5000000000 * million) ≡ true = ap (λ n. nat_lt n (5000000000 * million)) size ∙ grind (arith, nat_tests, bound) in
    ap (λ t. near_by (places_of 6 t)) (trim_inner t inner)
    ∙ ap near_by places
    ∙ guard (nat_lt (unsigned_abs (signed negative m)) (5000000000 * million)) (signed negative m) low

pub all_joined : (p : ℕ → Bool) (xs ys : List ℕ) → list_all p xs ≡ true → list_all p ys ≡ true → list_all p (xs ++ ys) ≡ true
all_joined p xs ys f g = list_all-append p xs ys ∙ and_both (list_all p xs) (list_all p ys) f g

-- digits alone, and digits with a fraction
pub whole_front : (text rest : List ℕ) (n : ℕ) → DigitsFront text n rest → DecimalFront text (n * 1000000) rest
whole_front text rest n d = record {
  body = d.digits;
  digits = d.digits;
  tail = [];
  fraction = [];
  whole = d.whole;
  inner = all_by is_ascii_digit is_inner d.digits digit_inner d.all;
  short = omega (arith, d.few);
  cut = digits_all d.digits d.all;
  behind = refl;
  all = d.all;
  some = d.some;
  few = d.few;
  all_behind = refl;
  few_behind = omega arith;
  value = omega (arith, d.value);
}

stops : (digits behind : List ℕ) → list_all is_ascii_digit digits ≡ true → prefix_len is_ascii_digit behind ≡ 0 → prefix_len is_ascii_digit (digits ++ behind) ≡ length digits
stops [] behind all none = none
stops (c ∷ cs) behind all none =
    ap (λ b. cond b (1 + prefix_len is_ascii_digit (cs ++ behind)) 0) (and_left (is_ascii_digit c) (list_all is_ascii_digit cs) all)
    ∙ ap (λ n. 1 + n) (stops cs behind (and_right (is_ascii_digit c) (list_all is_ascii_digit cs) all) none)
    ∙ omega arith

digits_then : (digits behind : List ℕ) → list_all is_ascii_digit digits ≡ true → prefix_len is_ascii_digit behind ≡ 0 → digits_at (digits ++ behind) ≡ (digits, behind)
digits_then digits behind all none =
    ap (λ n. (take n (digits ++ behind), drop n (digits ++ behind))) (stops digits behind all none)
    ∙ ap (λ t. (t, drop (length digits) (digits ++ behind))) (take-append_seam digits behind)
    ∙ ap (λ t. (digits, t)) (drop-append_seam digits behind)

some_fraction : (fraction : List ℕ) → 0 < length fraction → list_all is_ascii_digit fraction ≡ true → fraction_at (46 ∷ fraction) ≡ Some (fraction, [])
some_fraction fraction some all =
    let none : (prefix_len is_ascii_digit fraction == 0) ≡ false = grind (arith, nat_tests, some, prefix_all fraction all) in
    ap (λ b. cond b None (Some (digits_at fraction))) none ∙ ap (λ x. Some x) (digits_all fraction all)

pub point_front : (text more rest : List ℕ) (n m : ℕ) → DigitsFront text n (46 ∷ more) → FractionFront more m rest → DecimalFront text (n * 1000000 + m) rest
point_front text more rest n m d f = record {
  body = d.digits ++ 46 ∷ f.digits;
  digits = d.digits;
  tail = 46 ∷ f.digits;
  fraction = f.digits;
  whole = d.whole ∙ ap (λ t. d.digits ++ 46 ∷ t) f.whole ∙ sym (append_assoc d.digits (46 ∷ f.digits) rest);
  inner = all_joined is_inner d.digits (46 ∷ f.digits) (all_by is_ascii_digit is_inner d.digits digit_inner d.all) (all_by is_ascii_digit is_inner f.digits digit_inner f.all);
  short = omega (arith, length-append d.digits (46 ∷ f.digits), d.few, f.few);
  cut = digits_then d.digits (46 ∷ f.digits) d.all refl;
  behind = some_fraction f.digits f.some f.all;
  all = d.all;
  some = d.some;
  few = d.few;
  all_behind = f.all;
  few_behind = f.few;
  value = omega (arith, d.value, f.value);
}

-- a sign in front
pub record Signed (text : List ℕ) (negative : Bool) (behind : List ℕ) : Type 0 where
  pub sign : List ℕ
  pub whole : text ≡ sign ++ behind
  pub inner : list_all is_inner sign ≡ true
  pub short : length sign ≤ 1
  pub same : (ds digits tail : List ℕ) → digits_at ds ≡ (digits, tail) → 0 < length digits → sign_at (sign ++ ds) ≡ (negative, ds)

abbrev plus_by : ℕ → List ℕ → Bool → Bool × List ℕ
plus_by c cs y = cond y (false, cs) (false, c ∷ cs)

abbrev minus_by : ℕ → List ℕ → Bool → Bool × List ℕ
minus_by c cs x = cond x (true, cs) (plus_by c cs (c == 43))

first_digit : (c : ℕ) (cs digits tail : List ℕ) (b : Bool) → b ≡ is_ascii_digit c → ◌≡◌ {A = List ℕ × List ℕ} (take (cond b (1 + prefix_len is_ascii_digit cs) 0) (c ∷ cs), drop (cond b (1 + prefix_len is_ascii_digit cs) 0) (c ∷ cs)) (digits, tail) → 0 < length digits → is_ascii_digit c ≡ true
first_digit c cs digits tail true e cut some = sym e
first_digit c cs digits tail false e cut some =
    let none : [] ≡ digits = ap (λ (x : List ℕ × List ℕ). x.0) cut in
    absurd (omega (arith, some, ap length none))

plain_digits : (ds digits tail : List ℕ) → digits_at ds ≡ (digits, tail) → 0 < length digits → sign_at ds ≡ (false, ds)
plain_digits [] digits tail cut some =
    let none : [] ≡ digits = ap (λ (x : List ℕ × List ℕ). x.0) cut in
    absurd (omega (arith, some, ap length none))
plain_digits (c ∷ cs) digits tail cut some =
    let digit = first_digit c cs digits tail (is_ascii_digit c) refl cut some in
    let minus : (c == 45) ≡ false = grind (arith, nat_tests, digit) in
    let plus : (c == 43) ≡ false = grind (arith, nat_tests, digit) in
    ap (minus_by c cs) minus ∙ ap (plus_by c cs) plus

signed_plus : (c : ℕ) (cs : List ℕ) (y : Bool) → y ≡ (c == 43) → (c == 45) ≡ false → Signed (c ∷ cs) (plus_by c cs y).0 (plus_by c cs y).1
signed_plus c cs true e minus = record {
  sign = c ∷ [];
  whole = refl;
  inner = grind (arith, nat_tests, e);
  short = omega arith;
  same = λ ds digits tail cut some. ap (minus_by c ds) minus ∙ ap (plus_by c ds) (sym e);
}
signed_plus c cs false e minus = record { sign = []; whole = refl; inner = refl; short = omega arith; same = plain_digits }

signed_minus : (c : ℕ) (cs : List ℕ) (x : Bool) → x ≡ (c == 45) → Signed (c ∷ cs) (minus_by c cs x).0 (minus_by c cs x).1
signed_minus c cs true e = record {
  sign = c ∷ [];
  whole = refl;
  inner = grind (arith, nat_tests, e);
  short = omega arith;
  same = λ ds digits tail cut some. ap (minus_by c ds) (sym e);
}
signed_minus c cs false e = signed_plus c cs (c == 43) refl (sym e)

pub signed_at : (text : List ℕ) → Signed text (sign_at text).0 (sign_at text).1
signed_at [] = record { sign = []; whole = refl; inner = refl; short = omega arith; same = plain_digits }
signed_at (c ∷ cs) = signed_minus c cs (c == 45) refl

front_of : (text : List ℕ) (negative : Bool) (behind : List ℕ) (m : ℕ) (rest : List ℕ) → Signed text negative behind → DecimalFront behind m rest → MicrosFront text (signed negative m) rest
front_of text negative behind m rest s d =
    let inner = all_joined is_inner s.sign d.body s.inner d.inner in
    let places = places_decimal behind rest m (s.sign ++ d.body) negative d (s.same d.body d.digits d.tail d.cut d.some) (omega (arith, length-append s.sign d.body, s.short, d.short)) in
    record {
      front = s.sign ++ d.body;
      whole = s.whole ∙ ap (λ t. s.sign ++ t) d.whole ∙ sym (append_assoc s.sign d.body rest);
      colons = all_by is_inner (λ c. not (c == 58)) (s.sign ++ d.body) not_colon inner;
      commas = all_by is_inner (λ c. not (c == 44)) (s.sign ++ d.body) not_comma inner;
      value = near_decimal behind rest m (s.sign ++ d.body) negative d inner places;
      places = places;
    }

pub micros_at : (text : List ℕ) (negative : Bool) (behind : List ℕ) (m : ℕ) (rest : List ℕ) (v : ℤ) → (negative, behind) ≡ sign_at text → v ≡ signed negative m → DecimalFront behind m rest → MicrosFront text v rest
micros_at text negative behind m rest v sign value digits =
    let from : Signed text negative behind = subst (λ (s : Bool × List ℕ). Signed text s.0 s.1) (sym sign) (signed_at text) in
    subst (λ u. MicrosFront text u rest) (sym value) (front_of text negative behind m rest from digits)

pub whole_at : (text rest : List ℕ) (n count m : ℕ) → DigitRun text n count rest → 0 < count → m ≡ n * 1000000 → MicrosFront text (pos m) rest
whole_at text rest n count m d some value =
    let plain : Signed text false text = record { sign = []; whole = refl; inner = refl; short = omega arith; same = plain_digits } in
    subst (λ k. MicrosFront text (pos k) rest) (sym value) (front_of text false text (n * 1000000) rest plain (whole_front text rest n (run_digits text rest n count d some)))

-- what stands before the first separator
before_first : (b : ℕ) (front rest : List ℕ) → (b == b) ≡ true → list_all (λ c. not (c == b)) front ≡ true → length_before b (front ++ b ∷ rest) ≡ length front
before_first b [] rest same h = ap (λ x. cond (not x) (1 + length_before b rest) 0) same
before_first b (c ∷ cs) rest same h =
    ap (λ x. cond x (1 + length_before b (cs ++ b ∷ rest)) 0) (and_left (not (c == b)) (list_all (λ c. not (c == b)) cs) h)
    ∙ ap (λ n. 1 + n) (before_first b cs rest same (and_right (not (c == b)) (list_all (λ c. not (c == b)) cs) h))
    ∙ omega arith

cut_front : (b : ℕ) (front rest : List ℕ) → (b == b) ≡ true → list_all (λ c. not (c == b)) front ≡ true → cut_at b (front ++ b ∷ rest) ≡ Some (front, rest)
cut_front b front rest same h =
    ap (λ n. cut_by (take n (front ++ b ∷ rest)) (drop n (front ++ b ∷ rest))) (before_first b front rest same h)
    ∙ ap (λ t. cut_by t (drop (length front) (front ++ b ∷ rest))) (take-append_seam front (b ∷ rest))
    ∙ ap (λ d. cut_by front d) (drop-append_seam front (b ∷ rest))

mapped : (v : ℤ) (o : Option ℤ) → (o >>= λ output. Some (record { input = v; output = output })) ≡ pair_with v o
mapped v None = refl
mapped v (Some w) = refl

key_text : (f g : List ℕ) (v : ℤ) → list_all (λ c. not (c == 58)) f ≡ true → near_number f ≡ Some v → pair_of (f ++ 58 ∷ g) ≡ pair_with v (near_number g)
unfolding pair_of
key_text f g v plain first =
    ap (λ o. o >>= λ x. near_number x.0 >>= λ input. near_number x.1 >>= λ output. Some (record { input = input; output = output })) (cut_front 58 f g refl plain)
    ∙ ap (λ o. o >>= λ input. near_number g >>= λ output. Some (record { input = input; output = output })) first
    ∙ mapped v (near_number g)

pub front_pair : (text second last : List ℕ) (v w : ℤ) → MicrosFront text v (58 ∷ second) → MicrosFront second w last → PairFront text (record { input = v; output = w }) last
front_pair text second last v w a b = record {
  front = a.front ++ 58 ∷ b.front;
  whole = a.whole ∙ ap (λ t. a.front ++ 58 ∷ t) b.whole ∙ sym (append_assoc a.front (58 ∷ b.front) last);
  commas = all_joined (λ c. not (c == 44)) a.front (58 ∷ b.front) a.commas b.commas;
  value = key_text a.front b.front v a.colons a.value ∙ ap (pair_with v) b.value;
}

-- what is no comma stays in front of the first piece
abbrev piece_by : List ℕ → Option (List ℕ × List ℕ) → List ℕ × Option (List ℕ)
piece_by text cut = option_case cut (text, None) (λ x. (x.0, Some x.1))

one_front : (c : ℕ) (front text rest : List ℕ) → piece_by (c ∷ text) (cut_by (c ∷ front) rest) ≡ (c ∷ (piece_by text (cut_by front rest)).0, (piece_by text (cut_by front rest)).1)
one_front c front text [] = refl
one_front c front text (x ∷ xs) = refl

one_more : (n : ℕ) → 1 + n ≡ suc n
one_more n = omega arith

piece_one : (c : ℕ) (text : List ℕ) → not (c == 44) ≡ true → first_piece (c ∷ text) ≡ (c ∷ (first_piece text).0, (first_piece text).1)
piece_one c text other =
    let n : ℕ = length_before 44 text in
    ap (λ b. piece_by (c ∷ text) (cut_by (take (cond b (1 + n) 0) (c ∷ text)) (drop (cond b (1 + n) 0) (c ∷ text)))) other
    ∙ ap (λ k. piece_by (c ∷ text) (cut_by (take k (c ∷ text)) (drop k (c ∷ text)))) (one_more n)
    ∙ one_front c (take n text) text (drop n text)

piece_front : (front rest : List ℕ) → list_all (λ c. not (c == 44)) front ≡ true → first_piece (front ++ rest) ≡ (front ++ (first_piece rest).0, (first_piece rest).1)
piece_front [] rest h = refl
piece_front (c ∷ cs) rest h =
    piece_one c (cs ++ rest) (and_left (not (c == 44)) (list_all (λ c. not (c == 44)) cs) h)
    ∙ ap (λ (x : List ℕ × Option (List ℕ)). (c ∷ x.0, x.1)) (piece_front cs rest (and_right (not (c == 44)) (list_all (λ c. not (c == 44)) cs) h))

-- the first piece of a text whose front ends at a comma, or with the text
piece_whole : (text front rest : List ℕ) (o : Option (List ℕ)) → text ≡ front ++ rest → list_all (λ c. not (c == 44)) front ≡ true → first_piece rest ≡ ([], o) → first_piece text ≡ (front, o)
piece_whole text front rest o whole commas end =
    ap first_piece whole
    ∙ piece_front front rest commas
    ∙ ap (λ (x : List ℕ × Option (List ℕ)). (front ++ x.0, x.1)) end
    ∙ ap (λ (t : List ℕ). (t, o)) (append-nil front)

pub piece_value : (text rest : List ℕ) (v : ℤ) (o : Option (List ℕ)) → MicrosFront text v rest → first_piece rest ≡ ([], o) → near_number (first_piece text).0 ≡ Some v
piece_value text rest v o f end = ap (λ (x : List ℕ × Option (List ℕ)). near_number x.0) (piece_whole text f.front rest o f.whole f.commas end) ∙ f.value

pub piece_behind : (text rest : List ℕ) (v : ℤ) (o : Option (List ℕ)) → MicrosFront text v rest → first_piece rest ≡ ([], o) → o ≡ (first_piece text).1
piece_behind text rest v o f end = sym (ap (λ (x : List ℕ × Option (List ℕ)). x.1) (piece_whole text f.front rest o f.whole f.commas end))

pub piece_pair : (text rest : List ℕ) (p : LutPair) (o : Option (List ℕ)) → PairFront text p rest → first_piece rest ≡ ([], o) → pair_of (first_piece text).0 ≡ Some p
piece_pair text rest p o f end = ap (λ (x : List ℕ × Option (List ℕ)). pair_of x.0) (piece_whole text f.front rest o f.whole f.commas end) ∙ f.value

pub pair_behind : (text rest : List ℕ) (p : LutPair) (o : Option (List ℕ)) → PairFront text p rest → first_piece rest ≡ ([], o) → o ≡ (first_piece text).1
pair_behind text rest p o f end = sym (ap (λ (x : List ℕ × Option (List ℕ)). x.1) (piece_whole text f.front rest o f.whole f.commas end))

-- the first piece of a text that begins with a number and a colon
piece_key : (text second : List ℕ) (v : ℤ) (f : MicrosFront text v (58 ∷ second)) → first_piece text ≡ (f.front ++ 58 ∷ (first_piece second).0, (first_piece second).1)
piece_key text second v f =
    ap first_piece f.whole
    ∙ piece_front f.front (58 ∷ second) f.commas
    ∙ ap (λ (x : List ℕ × Option (List ℕ)). (f.front ++ x.0, x.1)) (piece_one 58 second refl)

pub key_pair : (text second : List ℕ) (v : ℤ) → MicrosFront text v (58 ∷ second) → pair_of (first_piece text).0 ≡ pair_with v (near_number (first_piece second).0)
key_pair text second v f = ap (λ (x : List ℕ × Option (List ℕ)). pair_of x.0) (piece_key text second v f) ∙ key_text f.front (first_piece second).0 v f.colons f.value

pub key_behind : (text second : List ℕ) (v : ℤ) → MicrosFront text v (58 ∷ second) → (first_piece second).1 ≡ (first_piece text).1
key_behind text second v f = sym (ap (λ (x : List ℕ × Option (List ℕ)). x.1) (piece_key text second v f))

-- a key of any form
key_all : (q : ℕ → Bool) (text : List ℕ) (n : ℕ) → ((c : ℕ) → is_of_key c ≡ true → q c ≡ true) → n ≡ prefix_len is_of_key text → list_all q (take n text) ≡ true
key_all q text n f is = ap (λ k. list_all q (take k text)) is ∙ all_by is_of_key q (take (prefix_len is_of_key text) text) f (all_taken is_of_key text)

pub key_taken : (text : List ℕ) (n : ℕ) → n ≡ prefix_len is_of_key text → list_all is_of_key (take n text) ≡ true
key_taken text n is = key_all is_of_key text n (λ c h. h) is

key_colon : (c : ℕ) → is_of_key c ≡ true → not (c == 58) ≡ true
key_colon c h = and_left (not (c == 58)) (not (c == 44)) h

key_comma : (c : ℕ) → is_of_key c ≡ true → not (c == 44) ≡ true
key_comma c h = and_right (not (c == 58)) (not (c == 44)) h

pub any_key : (f g : List ℕ) (v : ℤ) (o : Option ℤ) → list_all is_of_key f ≡ true → Some v ≡ near_number f → o ≡ near_number g → pair_with v o ≡ pair_of (f ++ 58 ∷ g)
any_key f g v o plain first second =
    ap (pair_with v) second ∙ sym (key_text f g v (all_by is_of_key (λ c. not (c == 58)) f key_colon plain) (sym first))

pub bad_key : (f g : List ℕ) → list_all is_of_key f ≡ true → None ≡ near_number f → None ≡ pair_of (f ++ 58 ∷ g)
unfolding pair_of
bad_key f g plain first = sym (
    ap (λ o. o >>= λ x. near_number x.0 >>= λ input. near_number x.1 >>= λ output. Some (record { input = input; output = output })) (cut_front 58 f g refl (all_by is_of_key (λ c. not (c == 58)) f key_colon plain))
    ∙ ap (λ o. o >>= λ input. near_number g >>= λ output. Some (record { input = input; output = output })) (sym first))

long_piece : (text rest : List ℕ) (n : ℕ) → n ≡ prefix_len is_of_key text → drop n text ≡ rest → first_piece text ≡ (take n text ++ (first_piece rest).0, (first_piece rest).1)
long_piece text rest n is behind =
    ap first_piece (sym (take-append-drop n text) ∙ ap (λ t. take n text ++ t) behind)
    ∙ piece_front (take n text) rest (key_all (λ c. not (c == 44)) text n key_comma is)

colon_piece : (text second : List ℕ) (n : ℕ) → n ≡ prefix_len is_of_key text → drop n text ≡ 58 ∷ second → first_piece text ≡ (take n text ++ 58 ∷ (first_piece second).0, (first_piece second).1)
colon_piece text second n is behind =
    long_piece text (58 ∷ second) n is behind ∙ ap (λ (x : List ℕ × Option (List ℕ)). (take n text ++ x.0, x.1)) (piece_one 58 second refl)

pub long_pair : (text second : List ℕ) (n : ℕ) → n ≡ prefix_len is_of_key text → drop n text ≡ 58 ∷ second → pair_of (take n text ++ 58 ∷ (first_piece second).0) ≡ pair_of (first_piece text).0
long_pair text second n is behind = sym (ap (λ (x : List ℕ × Option (List ℕ)). pair_of x.0) (colon_piece text second n is behind))

pub long_behind : (text second : List ℕ) (n : ℕ) → n ≡ prefix_len is_of_key text → drop n text ≡ 58 ∷ second → (first_piece second).1 ≡ (first_piece text).1
long_behind text second n is behind = sym (ap (λ (x : List ℕ × Option (List ℕ)). x.1) (colon_piece text second n is behind))

-- a piece without a colon
none_before : (b : ℕ) (front : List ℕ) → list_all (λ c. not (c == b)) front ≡ true → length_before b front ≡ length front
none_before b [] h = refl
none_before b (c ∷ cs) h =
    ap (λ x. cond x (1 + length_before b cs) 0) (and_left (not (c == b)) (list_all (λ c. not (c == b)) cs) h)
    ∙ ap (λ n. 1 + n) (none_before b cs (and_right (not (c == b)) (list_all (λ c. not (c == b)) cs) h))
    ∙ omega arith

no_cut : (b : ℕ) (front : List ℕ) → list_all (λ c. not (c == b)) front ≡ true → cut_at b front ≡ None
no_cut b front h =
    ap (λ n. cut_by (take n front) (drop n front)) (none_before b front h)
    ∙ ap (cut_by (take (length front) front)) (drop-length front)

no_pair : (front : List ℕ) → list_all (λ c. not (c == 58)) front ≡ true → pair_of front ≡ None
unfolding pair_of
no_pair front plain =
    ap (λ o. o >>= λ x. near_number x.0 >>= λ input. near_number x.1 >>= λ output. Some (record { input = input; output = output })) (no_cut 58 front plain)

lone_piece : (text rest : List ℕ) (n : ℕ) (o : Option (List ℕ)) → n ≡ prefix_len is_of_key text → drop n text ≡ rest → first_piece rest ≡ ([], o) → first_piece text ≡ (take n text, o)
lone_piece text rest n o is behind end =
    piece_whole text (take n text) rest o (sym (take-append-drop n text) ∙ ap (λ t. take n text ++ t) behind) (key_all (λ c. not (c == 44)) text n key_comma is) end

pub lone_pair : (text rest : List ℕ) (n : ℕ) (o : Option (List ℕ)) → n ≡ prefix_len is_of_key text → drop n text ≡ rest → first_piece rest ≡ ([], o) → None ≡ pair_of (first_piece text).0
lone_pair text rest n o is behind end =
    sym (ap (λ (x : List ℕ × Option (List ℕ)). pair_of x.0) (lone_piece text rest n o is behind end) ∙ no_pair (take n text) (key_all (λ c. not (c == 58)) text n key_colon is))

pub lone_behind : (text rest : List ℕ) (n : ℕ) (o : Option (List ℕ)) → n ≡ prefix_len is_of_key text → drop n text ≡ rest → first_piece rest ≡ ([], o) → o ≡ (first_piece text).1
lone_behind text rest n o is behind end = sym (ap (λ (x : List ℕ × Option (List ℕ)). x.1) (lone_piece text rest n o is behind end))

-- behind a key stands a comma where no colon does
pub comma_behind : (text behind : List ℕ) (n c : ℕ) → n ≡ prefix_len is_of_key text → drop n text ≡ c ∷ behind → c ≢ 58 → first_piece (c ∷ behind) ≡ ([], Some behind)
comma_behind text behind n c is at other =
    let less : n < length text = omega (arith, length-drop n text, ap length at) in
    let first : get_or text n 0 ≡ c = sym (ap (λ (t : List ℕ). get_or t 0 0) (drop_more text n 0 less)) ∙ ap (λ (t : List ℕ). get_or t 0 0) at in
    let stop : is_of_key (get_or text (prefix_len is_of_key text) 0) ≡ false = prefix_len_stops is_of_key text 0 (omega (arith, is, less)) in
    let same : is_of_key c ≡ false = ap is_of_key (sym first ∙ ap (λ k. get_or text k 0) is) ∙ stop in
    let comma : c ≡ 44 = grind (arith, nat_tests, same, other) in
    ap (λ x. first_piece (x ∷ behind)) comma

-- a text that is one number
pub whole_micros : (text rest : List ℕ) (v : ℤ) → MicrosFront text v rest → rest ≡ [] → Some v ≡ places_of 6 text
whole_micros text rest v f end = sym (ap (places_of 6) (f.whole ∙ ap (λ t. f.front ++ t) end ∙ append-nil f.front) ∙ f.places)

-- a text of digits alone
unsigned : (digits : List ℕ) → list_all is_ascii_digit digits ≡ true → sign_at digits ≡ (false, digits)
unsigned [] all = refl
unsigned (c ∷ cs) all =
    let digit = and_left (is_ascii_digit c) (list_all is_ascii_digit cs) all in
    let minus : (c == 45) ≡ false = grind (arith, nat_tests, digit) in
    let plus : (c == 43) ≡ false = grind (arith, nat_tests, digit) in
    ap (λ b. cond b (true, cs) (cond (c == 43) (false, cs) (false, c ∷ cs))) minus
    ∙ ap (λ b. cond b (false, cs) (false, c ∷ cs)) plus

pub whole_digits : (text rest : List ℕ) (n : ℕ) → DigitsFront text n rest → rest ≡ [] → Some (pos n) ≡ whole_of text
unfolding whole_of
whole_digits text rest n d end =
    let is : text ≡ d.digits = d.whole ∙ ap (λ t. d.digits ++ t) end ∙ append-nil d.digits in
    let parts : parts_of d.digits ≡ Some (decimal false d.digits []) = parts_at d.digits d.digits d.digits [] [] false (unsigned d.digits d.all) (digits_all d.digits d.all) refl (omega (arith, d.few)) d.some in
    let power : pos 0 -ℤ pos 0 ≡ pos 0 = omega (arith, ints) in
    let size : number (d.digits ++ []) ≡ n = ap number (append-nil d.digits) ∙ sym d.value in
    let small : number d.digits < 10 ^ 9 = number_short d.digits 9 d.all d.few in
    let low : nat_lt n (10 ^ 20) ≡ true = grind (arith, nat_tests, small, d.value) in
    sym (ap whole_of is
    ∙ ap (λ p. p >>= λ x. exact (number (x.whole ++ x.fraction)) (x.exponent -ℤ pos (length x.fraction)) >>= λ m. if nat_lt m (10 ^ 20) then Some (signed x.negative m) else None) parts
    ∙ ap (λ e. exact (number (d.digits ++ [])) e >>= λ m. if nat_lt m (10 ^ 20) then Some (pos m) else None) power
    ∙ ap (λ m. if nat_lt m (10 ^ 20) then Some (pos m) else None) (omega (arith, size))
    ∙ guard (nat_lt n (10 ^ 20)) (pos n) low)
