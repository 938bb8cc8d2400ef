-- Short numbers in front of a text, and what stands behind them.
use Rattle.std.specs.Prelude.{◌≡◌, ℕ, ℤ, ◌<◌, ◌≤◌, ◌+◌, ◌-◌, ◌*◌, ◌^◌, ◌==◌, ◌&&◌, not, Bool, true, List, [], ◌∷◌, ◌++◌}
use Rattle.std.specs.Prelude.{length, Option, Some, None, Result, Ok}
use Rattle.std.specs.Option.{option_map}
use Rattle.std.specs.List.{list_all}
use Rattle.std.specs.Char.{is_ascii_digit}
use Rattle.lists_and_answers.specs.Texts.{is_white}
use Rattle.lists_and_answers.specs.Answers.{◌>>=◌}
use Rattle.geotransform.specs.Decimal.{number, digits_at, fraction_at, places_of}
use Rattle.vrt_markup.specs.Items.{option_case}
use Rattle.vrt_markup.specs.declared.fault.VrtFault.{VrtFault}
use Rattle.vrt_profile.specs.Fields.{colon, comma, near_number, pair_of, cut_at, pieces}
use Rattle.vrt_profile.specs.declared.rectangle.LutPair.{LutPair}
use Rattle.vrt_profile.specs.Numbers.{lut_from}

-- a byte that neither parts nor is white space
abbrev pub is_inner : ℕ → Bool
is_inner c = not (c == colon) && (not (c == comma) && not (is_white c))

-- a byte before the first colon or comma
abbrev pub is_of_key : ℕ → Bool
is_of_key c = not (c == colon) && not (c == comma)

-- a digit, which writes n
abbrev pub IsDigitFront : List ℕ → ℕ → List ℕ → Type 0
IsDigitFront text n rest = (n < 10) × (text ≡ (n + 48) ∷ rest)

-- up to nine digits, so many, which write n
pub record DigitRun (text : List ℕ) (n count : ℕ) (rest : List ℕ) : Type 0 where
  pub digits : List ℕ
  pub whole : text ≡ digits ++ rest
  pub all : list_all is_ascii_digit digits ≡ true
  pub size : length digits ≡ count
  pub few : count ≤ 9
  pub value : n ≡ number digits

-- up to nine digits, which write n
pub record DigitsFront (text : List ℕ) (n : ℕ) (rest : List ℕ) : Type 0 where
  pub digits : List ℕ
  pub whole : text ≡ digits ++ rest
  pub all : list_all is_ascii_digit digits ≡ true
  pub some : 0 < length digits
  pub few : length digits ≤ 9
  pub value : n ≡ number digits

-- up to six digits of a fraction, which write m millionths
pub record FractionFront (text : List ℕ) (m : ℕ) (rest : List ℕ) : Type 0 where
  pub digits : List ℕ
  pub whole : text ≡ digits ++ rest
  pub all : list_all is_ascii_digit digits ≡ true
  pub some : 0 < length digits
  pub few : length digits ≤ 6
  pub value : m ≡ number digits * 10 ^ (6 - length digits)

-- up to nine digits, and maybe a point and up to six more, which write m millionths
pub record DecimalFront (text : List ℕ) (m : ℕ) (rest : List ℕ) : Type 0 where
  pub body : List ℕ
  pub digits : List ℕ
  pub tail : List ℕ
  pub fraction : List ℕ
  pub whole : text ≡ body ++ rest
  pub inner : list_all is_inner body ≡ true
  pub short : length body ≤ 16
  pub cut : digits_at body ≡ (digits, tail)
  pub behind : fraction_at tail ≡ Some (fraction, [])
  pub all : list_all is_ascii_digit digits ≡ true
  pub some : 0 < length digits
  pub few : length digits ≤ 9
  pub all_behind : list_all is_ascii_digit fraction ≡ true
  pub few_behind : length fraction ≤ 6
  pub value : m ≡ number digits * 1000000 + number fraction * 10 ^ (6 - length fraction)

-- a number that is v millionths, without a colon or a comma
pub record MicrosFront (text : List ℕ) (v : ℤ) (rest : List ℕ) : Type 0 where
  pub front : List ℕ
  pub whole : text ≡ front ++ rest
  pub colons : list_all (λ c. not (c == colon)) front ≡ true
  pub commas : list_all (λ c. not (c == comma)) front ≡ true
  pub value : near_number front ≡ Some v
  pub places : places_of 6 front ≡ Some v

-- the pair of an input and what may be an output
abbrev pub pair_with : ℤ → Option ℤ → Option LutPair
pair_with input output = option_map (λ w. record { input = input; output = w }) output

-- a pair of such numbers with a colon between them
pub record PairFront (text : List ℕ) (pair : LutPair) (rest : List ℕ) : Type 0 where
  pub front : List ℕ
  pub whole : text ≡ front ++ rest
  pub commas : list_all (λ c. not (c == comma)) front ≡ true
  pub value : pair_of front ≡ Some pair

-- what stands before the first comma, or all, and what stands behind that comma
abbrev pub first_piece : List ℕ → List ℕ × Option (List ℕ)
first_piece text = option_case (cut_at comma text) (text, None) (λ x. (x.0, Some x.1))

-- the pairs of a table by those in front of a text, the last one of which this is, and by what the text gives
abbrev pub lut_behind : List LutPair → Option LutPair → List ℕ → Result (List LutPair) VrtFault
lut_behind pairs last text = lut_from (length pairs) last (pieces comma text) >>= λ more. Ok (pairs ++ more)
