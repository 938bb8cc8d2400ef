-- The numbers of a document, each in a text.
use Rattle.std.specs.Prelude.{ℕ, ℤ, pos, suc, ◌*◌, Bool, true, ◌&&◌, List, [], ◌∷◌, take, map, codes, Option, Some}
use Rattle.std.specs.Prelude.{None, ok_or, Result, Ok, Err, nat_lt, nat_le, int_lt, ◌==◌, if◌then◌else◌, unsigned_abs}
use Rattle.std.specs.Char.{to_ascii_lowercase}
use Rattle.lists_and_answers.specs.Answers.{◌>>=◌}
use Rattle.geotransform.specs.Decimal.{places_of}
use Rattle.geotransform.specs.Geo.{Transform, transform_of}
use Rattle.vrt_markup.specs.Items.{is_equal}
use Rattle.vrt_profile.specs.Fields.{trim, whole_text, pair_of, pieces, comma, Six, six_of}
use Rattle.vrt_profile.specs.Values.{million, most_pairs, scale_limit}
use Rattle.vrt_profile.specs.declared.rectangle.LutPair.{LutPair}
use Rattle.vrt_markup.specs.declared.fault.VrtFault.{VrtFault}
use Rattle.vrt_markup.specs.declared.fault.VrtFault.TheVariants.{MissingPart, BadNumber, Unsupported, Limit}
use Rattle.geotransform.specs.Limits.{farthest, most_bands, most_side}

-- A side of the raster: a whole text above 0, up to a limit.
abbrev pub side_by : Option ℕ → Result ℕ VrtFault
side_by None = Err BadNumber
side_by (Some n) = if n == 0 then Err BadNumber else (if nat_lt most_side n then Err Limit else Ok n)

abbrev pub side_in : Option (List ℕ) → Result ℕ VrtFault
side_in None = Err MissingPart
side_in (Some text) = side_by (whole_text text)

-- A number of a rectangle, in millionths of a pixel, half away from zero.
abbrev pub micro_in : Option (List ℕ) → Result ℤ VrtFault
micro_in None = Err MissingPart
micro_in (Some text) = ok_or (places_of 6 text) BadNumber

abbrev pub within_limit : ℤ → Result ℤ VrtFault
within_limit v = if nat_lt (farthest * million) (unsigned_abs v) then Err Limit else Ok v

abbrev pub offset_in : Option (List ℕ) → Result ℤ VrtFault
offset_in text = micro_in text >>= within_limit

abbrev pub some_size : ℤ → Result ℤ VrtFault
some_size v = if int_lt (pos 0) v then within_limit v else Err BadNumber

abbrev pub size_in : Option (List ℕ) → Result ℤ VrtFault
size_in text = micro_in text >>= some_size

-- The band of a source: from 1 to 256, trimmed. A mask isn't supported.
abbrev pub is_mask : List ℕ → Bool
is_mask text = is_equal (map to_ascii_lowercase (take 4 text)) (codes "mask")

abbrev pub no_band_fault : List ℕ → VrtFault
no_band_fault text = if is_mask text then Unsupported else BadNumber

abbrev pub band_number_by : List ℕ → Option ℕ → Result ℕ VrtFault
band_number_by text None = Err (no_band_fault text)
band_number_by text (Some n) = if nat_lt 0 n && nat_le n most_bands then Ok n else Err (no_band_fault text)

abbrev pub band_number : List ℕ → Result ℕ VrtFault
band_number text = band_number_by text (whole_text text)

-- An offset or a ratio of a scaling, in parts of 10^12, trimmed.
abbrev pub scale_by : Option ℤ → Result ℤ VrtFault
scale_by None = Err BadNumber
scale_by (Some v) = if nat_lt (unsigned_abs v) scale_limit then Ok v else Err BadNumber

abbrev pub scale_of : List ℕ → Result ℤ VrtFault
scale_of text = scale_by (places_of 12 (trim text))

-- A lookup table: pairs whose inputs rise, each behind n others and above the last of them. A pair past the limit is
-- found at its place.
abbrev pub is_above : Option LutPair → LutPair → Bool
is_above None pair = true
is_above (Some last) pair = int_lt last.input pair.input

abbrev pub rising_pair : Option LutPair → LutPair → Result LutPair VrtFault
rising_pair last pair = if is_above last pair then Ok pair else Err BadNumber

abbrev pub next_pair : ℕ → Option LutPair → List ℕ → Result LutPair VrtFault
next_pair n last piece =
    if nat_le most_pairs n then Err Limit else (ok_or (pair_of piece) BadNumber >>= rising_pair last)

abbrev pub lut_from : ℕ → Option LutPair → List (List ℕ) → Result (List LutPair) VrtFault
lut_from n last [] = Ok []
lut_from n last (piece ∷ more) = next_pair n last piece >>= λ pair. lut_from (suc n) (Some pair) more >>= λ pairs.
    Ok (pair ∷ pairs)

abbrev pub lut_of : List ℕ → Result (List LutPair) VrtFault
lut_of text = lut_from 0 None (pieces comma text)

-- without a rotation
abbrev pub north_up : Six → Result Transform VrtFault
north_up s = if (unsigned_abs s.rx == 0) && (unsigned_abs s.ry == 0)
    then ok_or (transform_of s.ox s.oy s.dx s.dy) BadNumber else Err Unsupported

abbrev pub geo_of : List ℕ → Result Transform VrtFault
geo_of text = ok_or (six_of text) BadNumber >>= north_up
