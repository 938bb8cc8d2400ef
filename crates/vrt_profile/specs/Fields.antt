-- Numbers in a text, alone or with marks between them.
use Rattle.std.specs.Prelude.{ℕ, ℤ, ◌-◌, ◌*◌, not, List, [], ◌∷◌, length, take, drop, Option, Some, None, nat_lt}
use Rattle.std.specs.Prelude.{nat_le, ◌==◌, if◌then◌else◌, unsigned_abs}
use Rattle.std.specs.List.{prefix_len, suffix_len}
use Rattle.lists_and_answers.specs.Options.{◌>>=◌}
use Rattle.lists_and_answers.specs.Texts.{is_white}
use Rattle.geotransform.specs.Decimal.{number_of, places_of, ticks_of}
use Rattle.geotransform.specs.Limits.{most_short_digits}
use Rattle.vrt_markup.specs.Items.{trim_front}
use Rattle.vrt_profile.specs.Values.{million, pair_limit}
use Rattle.vrt_profile.specs.declared.rectangle.LutPair.{LutPair}

-- a text without white space at its ends
abbrev pub trim_end : List ℕ → List ℕ
trim_end text = take (length text - suffix_len is_white text) text

abbrev pub trim : List ℕ → List ℕ
trim text = trim_end (trim_front text)

-- a whole text: one to nine digits
abbrev pub whole_text : List ℕ → Option ℕ
whole_text text = if nat_le (length text) most_short_digits then number_of text else None

-- the marks between numbers
abbrev pub colon : ℕ
colon = 58

abbrev pub comma : ℕ
comma = 44

-- what stands before the first byte b, and what behind it
abbrev pub length_before : ℕ → List ℕ → ℕ
length_before b text = prefix_len (λ c. not (c == b)) text

abbrev pub cut_by : List ℕ → List ℕ → Option (List ℕ × List ℕ)
cut_by front [] = None
cut_by front (c ∷ cs) = Some (front, cs)

abbrev pub cut_at : ℕ → List ℕ → Option (List ℕ × List ℕ)
cut_at b text = cut_by (take (length_before b text) text) (drop (length_before b text) text)

-- A number of a lookup table, in millionths, where it is below the limit.
abbrev pub near_by : Option ℤ → Option ℤ
near_by None = None
near_by (Some v) = if nat_lt (unsigned_abs v) (pair_limit * million) then Some v else None

abbrev pub near_number : List ℕ → Option ℤ
near_number text = near_by (places_of 6 (trim text))

-- A pair of a lookup table, in millionths: two numbers with a colon between them.
unfoldable pub pair_of : List ℕ → Option LutPair
pair_of text = do
  x ← cut_at colon text
  input ← near_number x.0
  output ← near_number x.1
  Some (record { input = input; output = output })

-- the pieces with one more byte in front of the first
abbrev pub onto : ℕ → List (List ℕ) → List (List ℕ)
onto c [] = (c ∷ []) ∷ []
onto c (piece ∷ pieces) = (c ∷ piece) ∷ pieces

-- the pieces between the bytes b
abbrev pub pieces : ℕ → List ℕ → List (List ℕ)
pieces b [] = [] ∷ []
pieces b (c ∷ cs) = if c == b then [] ∷ pieces b cs else onto c (pieces b cs)

-- Six numbers of a geotransform with commas between them, in their order.
pub record Six : Type 0 where
  pub ox : ℤ
  pub dx : ℤ
  pub rx : ℤ
  pub oy : ℤ
  pub ry : ℤ
  pub dy : ℤ

-- a number in ticks, and what stands behind the comma after it
unfoldable pub ticks_then : List ℕ → Option (ℤ × List ℕ)
ticks_then text = do
  x ← cut_at comma text
  v ← ticks_of (trim x.0)
  Some (v, x.1)

unfoldable pub six_of : List ℕ → Option Six
six_of text = do
  ox ← ticks_then text
  dx ← ticks_then ox.1
  rx ← ticks_then dx.1
  oy ← ticks_then rx.1
  ry ← ticks_then oy.1
  dy ← ticks_of (trim ry.1)
  Some (record { ox = ox.0; dx = dx.0; rx = rx.0; oy = oy.0; ry = ry.0; dy = dy })
