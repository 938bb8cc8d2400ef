-- What a source makes of a pixel of its dataset, and what the pixels of a mosaic's band are.
use Rattle.std.specs.Prelude.{ℕ, ℤ, pos, ◌+ℤ◌, ◌-ℤ◌, ◌*ℤ◌, ◌*◌, Bool, false, not, is_some, ◌&&◌, ◌||◌, nat_le, List, []}
use Rattle.std.specs.Prelude.{◌∷◌, Option, Some, None, int_lt, int_le, if◌then◌else◌, unsigned_abs, unwrap_or}
use Rattle.std.specs.Prelude.{option_map}
use Rattle.std.specs.Ordering.{int_eq}
use Rattle.std.specs.Option.{option_or}
use Rattle.lists_and_answers.specs.Options.{◌>>=◌}
use Rattle.geotransform.specs.Places.{half}
use Rattle.geotransform.specs.Types.{byte_count, clamp}
use Rattle.geotransform.specs.declared.types.PixelType.{PixelType}
use Rattle.geotransform.specs.declared.types.Size.{Size}
use Rattle.vrt_profile.specs.Values.{million, trillion, SourceValue, BandValue}
use Rattle.vrt_profile.specs.Cover.{cover_of}
use Rattle.vrt_profile.specs.declared.rectangle.LutPair.{LutPair}

-- whether a pixel is the NODATA
abbrev pub is_nodata : Option ℤ → ℤ → Bool
is_nodata None pixel = false
is_nodata (Some n) pixel = int_eq n pixel

-- The output, rounded to a whole number, at an input on the straight line from pair p to pair q.
abbrev pub on_line : LutPair → LutPair → ℤ → ℤ
on_line p q input = half (p.output *ℤ (q.input -ℤ p.input) +ℤ (input -ℤ p.input) *ℤ (q.output -ℤ p.output))
    (unsigned_abs (q.input -ℤ p.input) * million)

-- The output at an input that isn't below the first pair's: on the line to the next pair, or the last output.
abbrev pub output_behind : LutPair → List LutPair → ℤ → ℤ
output_behind p [] input = half p.output million
output_behind p (q ∷ qs) input = if int_lt input q.input then on_line p q input else output_behind q qs input

-- The output of a lookup table, which has a pair at least.
abbrev pub looked_up : List LutPair → ℤ → ℤ
looked_up [] input = pos 0
looked_up (p ∷ ps) input = if int_le input p.input then half p.output million else output_behind p ps input

-- a whole number of a value in parts of 10^12, of which a table takes the nearest millionth
abbrev pub whole_by : Option (List LutPair) → ℤ → ℤ
whole_by None scaled = half scaled trillion
whole_by (Some pairs) scaled = looked_up pairs (half scaled million)

-- what a ComplexSource makes of a pixel, if it isn't its NODATA
abbrev pub complex_value : SourceValue → ℤ → Option ℤ
complex_value s pixel = if is_nodata s.nodata pixel then None else Some (whole_by s.lut (pixel *ℤ s.ratio +ℤ s.offset))

-- What a source makes of a pixel.
unfoldable pub source_value : SourceValue → ℤ → Option ℤ
source_value s pixel = if s.complex then complex_value s pixel else Some pixel

-- whether a source gives each pixel as it is, but its NODATA: it is neither scaled nor has it a table
abbrev pub is_plain : SourceValue → Bool
is_plain s = not s.complex || (int_eq s.ratio (pos trillion) && (int_eq s.offset (pos 0) && not (is_some s.lut)))

-- whether a source takes samples of a type: those that it scales, or has a table for, have at most 32 bits
abbrev pub takes_kind : SourceValue → PixelType → Bool
takes_kind s kind = is_plain s || nat_le (byte_count kind) 4

-- what a source gives at a pixel of the mosaic, where the pixels of its dataset are these
abbrev pub given_of : SourceValue → Size → Size → (ℕ → ℕ → ℤ) → ℕ → ℕ → Option ℤ
given_of s mosaic size pixels x y = cover_of s mosaic size x y >>= λ place. source_value s (pixels place.0 place.1)

-- what the last of the sources gives that gives something
abbrev pub last_given : (SourceValue → Option ℤ) → List SourceValue → Option ℤ
last_given given [] = None
last_given given (s ∷ ss) = option_or (last_given given ss) (given s)

-- The pixel of a band of a mosaic, by what each source gives at a column and a line: what the last source gives that
-- gives something, in the band's range; else the band's NODATA, or 0.
abbrev pub mosaic_pixel : BandValue → (SourceValue → ℕ → ℕ → Option ℤ) → ℕ → ℕ → ℤ
mosaic_pixel b given x y =
    unwrap_or (option_map (clamp b.kind) (last_given (λ s. given s x y) b.sources)) (unwrap_or b.nodata (pos 0))
