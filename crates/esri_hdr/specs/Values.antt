-- What the value of a key means, key by key. A key without a value has its default.
use Rattle.std.specs.Prelude.{◌≡◌, ◌≤◌, ℕ, ◌*◌, ◌^◌, Bool, true, false, ◌&&◌, ◌||◌, List, Option, Some, None, Result}
use Rattle.std.specs.Prelude.{ok_or, Ok, Err, nat_lt, ◌==◌, if◌then◌else◌, codes, slice_index}
use Rattle.std.specs.Char.{to_ascii_lowercase}
use Rattle.lists_and_answers.specs.Answers.{◌>>=◌}
use Rattle.lists_and_answers.specs.Texts.{same_letters}
use Rattle.geotransform.specs.Decimal.{number_of, is_negative_decimal}
use Rattle.geotransform.specs.declared.types.PixelType.{PixelType}
use Rattle.geotransform.specs.declared.types.PixelType.TheVariants.{Byte, Int8, UInt16, Int16, UInt32, Int32, UInt64}
use Rattle.geotransform.specs.declared.types.PixelType.TheVariants.{Int64}
use Rattle.esri_hdr.specs.declared.header_parts.HdrFault.{HdrFault}
use Rattle.esri_hdr.specs.declared.header_parts.HdrFault.TheVariants.{BadValue, Unsupported, Limit}
use Rattle.esri_hdr.specs.declared.header_parts.Layout.{Layout}
use Rattle.esri_hdr.specs.declared.header_parts.Layout.TheVariants.{Bil, Bip, Bsq}
use Rattle.geotransform.specs.Limits.{most_bands, most_side}

-- the most bytes of a line of a band, and of all bands
abbrev pub longest_row : ℕ
longest_row = 2 ^ 33

-- the most bytes before the samples, and between two bands
abbrev pub longest_gap : ℕ
longest_gap = 2 ^ 40

-- a number up to the limit
abbrev pub at_most : ℕ → ℕ → Result ℕ HdrFault
at_most limit n = if nat_lt limit n then Err Limit else Ok n

-- from 1 to the limit
abbrev pub count_within : ℕ → ℕ → Result ℕ HdrFault
count_within limit n = if n == 0 then Err BadValue else at_most limit n

-- one to 18 digits
abbrev pub number_in : List ℕ → Result ℕ HdrFault
number_in text = ok_or (number_of text) BadValue

-- a number, or its default where the key is absent
abbrev pub number_or : ℕ → Option (List ℕ) → Result ℕ HdrFault
number_or default None = Ok default
number_or default (Some text) = number_in text

-- NROWS, NCOLS
unfoldable pub side_in : List ℕ → Result ℕ HdrFault
side_in text = do
  n ← number_in text
  count_within most_side n

-- NBANDS
unfoldable pub bands_in : Option (List ℕ) → Result ℕ HdrFault
bands_in text = do
  n ← number_or 1 text
  count_within most_bands n

-- NBITS
unfoldable pub bits_in : Option (List ℕ) → Result ℕ HdrFault
bits_in text = do
  n ← number_or 8 text
  if (n == 8) || ((n == 16) || ((n == 32) || (n == 64))) then Ok n else Err Unsupported

-- the letters by which a byte order is told
abbrev pub letter_i : ℕ
letter_i = 105

abbrev pub letter_l : ℕ
letter_l = 108

abbrev pub letter_m : ℕ
letter_m = 109

abbrev pub letter_b : ℕ
letter_b = 98

-- BYTEORDER, by its first letter in lower case: `i` and `l` put the least byte first, `m` and `b` the greatest
abbrev pub order_of : ℕ → Result Bool HdrFault
order_of c = if (c == letter_i) || (c == letter_l) then Ok false
    else (if (c == letter_m) || (c == letter_b) then Ok true else Err BadValue)

unfoldable pub big_endian_in : Option (List ℕ) → Result Bool HdrFault
big_endian_in None = Ok false
big_endian_in (Some text) = order_of (to_ascii_lowercase (slice_index text 0))

-- LAYOUT
unfoldable pub layout_in : Option (List ℕ) → Result Layout HdrFault
layout_in None = Ok Bil
layout_in (Some text) = if same_letters text (codes "BIL") then Ok Bil
    else (if same_letters text (codes "BIP") then Ok Bip else (if same_letters text (codes "BSQ") then Ok Bsq
    else Err BadValue))

-- SKIPBYTES, and BANDGAPBYTES where it counts
unfoldable pub skip_in : Option (List ℕ) → Result ℕ HdrFault
skip_in text = do
  n ← number_or 0 text
  at_most longest_gap n

-- whether there is a text, and it is a decimal text below 0
abbrev pub is_negative : Option (List ℕ) → Bool
is_negative None = false
is_negative (Some text) = is_negative_decimal text

-- PIXELTYPE: whether the samples are signed. Without it they are where more than 8 bits have a negative NODATA
unfoldable pub signed_in : ℕ → Option (List ℕ) → Option (List ℕ) → Result Bool HdrFault
signed_in bits None nodata = Ok (nat_lt 8 bits && is_negative nodata)
signed_in bits (Some text) nodata = if same_letters text (codes "SIGNEDINT") then Ok true
    else (if same_letters text (codes "UNSIGNEDINT") then Ok false
    else (if same_letters text (codes "FLOAT") then Err Unsupported else Err BadValue))

-- the type of samples of so many bits
unfoldable pub type_of_bits : ℕ → Bool → PixelType
type_of_bits bits signed = if bits == 8 then (if signed then Int8 else Byte)
    else (if bits == 16 then (if signed then Int16 else UInt16)
    else (if bits == 32 then (if signed then Int32 else UInt32) else (if signed then Int64 else UInt64)))

-- a length that is at least what the samples take, which is its default
unfoldable pub row_in : ℕ → Option (List ℕ) → Result ℕ HdrFault
row_in least text = do
  n ← number_or least text
  if nat_lt n least then Err BadValue else at_most longest_row n

-- BANDROWBYTES, which counts in BIL
unfoldable pub band_row_in : Layout → ℕ → Option (List ℕ) → Result ℕ HdrFault
band_row_in Bil row text = row_in row text
band_row_in Bip row text = Ok row
band_row_in Bsq row text = Ok row

-- TOTALROWBYTES, which counts in BIL and BIP
unfoldable pub total_row_in : Layout → ℕ → ℕ → ℕ → Option (List ℕ) → Result ℕ HdrFault
total_row_in Bil bands row band_row text = row_in (bands * band_row) text
total_row_in Bip bands row band_row text = row_in (row * bands) text
total_row_in Bsq bands row band_row text = Ok row

-- BANDGAPBYTES, which counts in BSQ
unfoldable pub gap_in : Layout → Option (List ℕ) → Result ℕ HdrFault
gap_in Bil text = Ok 0
gap_in Bip text = Ok 0
gap_in Bsq text = skip_in text

-- what the bytes of a band's row may be, by the layout and the bytes of its samples
abbrev pub BandRowFits : Layout → ℕ → ℕ → Type 0
BandRowFits Bil row b = (row ≤ b) × (b ≤ longest_row)
BandRowFits Bip row b = b ≡ row
BandRowFits Bsq row b = b ≡ row

-- what the bytes of a line may be
abbrev pub TotalRowFits : Layout → ℕ → ℕ → ℕ → ℕ → Type 0
TotalRowFits Bil bands row b t = (bands * b ≤ t) × (t ≤ longest_row)
TotalRowFits Bip bands row b t = (row * bands ≤ t) × (t ≤ longest_row)
TotalRowFits Bsq bands row b t = t ≡ row

-- what the bytes between two bands may be
abbrev pub GapFits : Layout → ℕ → Type 0
GapFits Bil gap = gap ≡ 0
GapFits Bip gap = gap ≡ 0
GapFits Bsq gap = gap ≤ longest_gap
