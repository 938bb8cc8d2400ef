-- What a token says.
use Rattle.std.specs.Prelude.{ℕ, ℤ, pos, Bool, true, false, ◌&&◌, ◌||◌, List, [], ◌∷◌, length, codes, Option, Result}
use Rattle.std.specs.Prelude.{Ok, Err, ok_or, nat_lt, nat_le, ◌==◌, if◌then◌else◌, int_lt, unsigned_abs}
use Rattle.std.specs.List.{list_all}
use Rattle.std.specs.Char.{is_ascii_digit}
use Rattle.lists_and_answers.specs.Answers.{◌>>=◌}
use Rattle.lists_and_answers.specs.Bytes.{plus_sign, minus_sign, point, zero_digit}
use Rattle.lists_and_answers.specs.Texts.{same_letters}
use Rattle.geotransform.specs.Decimal.{ticks_of, whole_of, is_decimal, sign_at, digits_at, number, signed, number_of}
use Rattle.geotransform.specs.Types.{is_in, when_in}
use Rattle.geotransform.specs.declared.types.PixelType.TheVariants.{Int32}
use Rattle.ascii_grid.specs.declared.faults.GridFault.{GridFault}
use Rattle.ascii_grid.specs.declared.faults.GridFault.TheVariants.{BadToken, NotInteger, Limit}
use Rattle.geotransform.specs.Limits.{longest_decimal, most_short_digits, most_side}

-- a number of columns or rows: one to nine digits that write a number above 0
unfoldable pub side_in : ℕ → List ℕ → Result ℕ GridFault
side_in at text = do
  n ← ok_or (number_of text) (BadToken at)
  if nat_lt most_short_digits (length text) || (n == 0) then Err (BadToken at)
      else (if nat_lt most_side n then Err Limit else Ok n)

-- a coordinate in ticks
abbrev pub coordinate_in : ℕ → List ℕ → Result ℤ GridFault
coordinate_in at text = ok_or (ticks_of text) (BadToken at)

-- a size of a pixel in ticks, which is above 0
unfoldable pub step_in : ℕ → List ℕ → Result ℕ GridFault
step_in at text = do
  v ← ok_or (ticks_of text) (BadToken at)
  if int_lt (pos 0) v then Ok (unsigned_abs v) else Err (BadToken at)

-- a number of the band, which is of Int32
abbrev pub is_value : ℤ → Bool
is_value n = is_in Int32 n

-- a NODATA: none where the number isn't whole or isn't of the band
unfoldable pub nodata_in : ℕ → List ℕ → Result (Option ℤ) GridFault
nodata_in at text = if is_decimal text || same_letters text (codes "nan") then Ok (when_in Int32 (whole_of text))
    else Err (BadToken at)

-- an optional point with at least one zero behind it and nothing else
abbrev pub is_whole_end : List ℕ → Bool
is_whole_end [] = true
is_whole_end (c ∷ cs) = (c == point) && (nat_lt 0 (length cs) && list_all (λ d. d == zero_digit) cs)

-- an optional sign, digits, and optionally a point with zeros alone behind it
abbrev pub is_whole_text : List ℕ → Bool
is_whole_text text = let w = digits_at (sign_at text).1 in nat_le (length text) longest_decimal &&
    (nat_lt 0 (length w.0) && is_whole_end w.1)

abbrev pub whole_value : List ℕ → ℤ
whole_value text = signed (sign_at text).0 (number (digits_at (sign_at text).1).0)

-- the value of a token of the body
unfoldable pub value_in : ℕ → List ℕ → Result ℤ GridFault
value_in at text =
    if is_whole_text text then (if is_value (whole_value text) then Ok (whole_value text) else Err Limit)
    else (if is_decimal text then Err (NotInteger at) else Err (BadToken at))

-- whether a token in a key's place ends the head: it begins with a digit, a sign or a point
abbrev pub is_body_start : List ℕ → Bool
is_body_start [] = false
is_body_start (c ∷ cs) = is_ascii_digit c || ((c == plus_sign) || ((c == minus_sign) || (c == point)))
