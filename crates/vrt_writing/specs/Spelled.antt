-- The one text that is written of a document.
use Rattle.std.specs.Prelude.{ℕ, ℤ, pos, suc, ◌*◌, ◌*ℤ◌, ◌-ℤ◌, ◌==◌, Bool, List, [], ◌∷◌, ◌++◌, flat_map, replicate}
use Rattle.std.specs.Prelude.{codes, Option, Some, None, if◌then◌else◌, unsigned_abs}
use Rattle.std.specs.Fmt.{decimal, signed_decimal}
use Rattle.geotransform.specs.Print.{short_text}
use Rattle.geotransform.specs.Geo.{Transform}
use Rattle.geotransform.specs.Types.{name_of}
use Rattle.geotransform.specs.declared.types.PixelType.{PixelType}
use Rattle.geotransform.specs.declared.types.Size.{Size}
use Rattle.lists_and_answers.specs.Bytes.{space_byte}
use Rattle.vrt_markup.specs.Items.{Pair, less_than, greater_than, ampersand, double_quote, single_quote}
use Rattle.vrt_profile.specs.Fields.{colon, comma}
use Rattle.vrt_profile.specs.Values.{trillion, Rectangle, SourceValue, BandValue, DocumentValue}
use Rattle.vrt_profile.specs.declared.rectangle.LutPair.{LutPair}

-- Elements one after another: one that holds a text, as it stands there; an empty one; one that holds others. Each with
-- its name and its attributes.
pub data Markup : Type 0 where
  nothing : Markup
  both : Markup → Markup → Markup
  words : List ℕ → List Pair → List ℕ → Markup
  empty : List ℕ → List Pair → Markup
  group : List ℕ → List Pair → Markup → Markup

-- the five special characters are written as entities
abbrev pub escape : ℕ → List ℕ
escape c =
    if c == ampersand then codes "&amp;" else (
    if c == less_than then codes "&lt;" else (
    if c == greater_than then codes "&gt;" else (
    if c == double_quote then codes "&quot;" else (
    if c == single_quote then codes "&apos;" else c ∷ []))))

abbrev pub escaped : List ℕ → List ℕ
escaped text = flat_map escape text

-- Two spaces stand in front for each level.
abbrev pub indent : ℕ → List ℕ
indent level = replicate (2 * level) space_byte

-- an attribute, behind a space
abbrev pub pair_text : Pair → List ℕ
pair_text p = space_byte ∷ (p.name ++ (codes "=\"" ++ (p.value ++ double_quote ∷ [])))

-- a start tag or an empty tag without its end
abbrev pub tag_text : ℕ → List ℕ → List Pair → List ℕ
tag_text level name pairs = indent level ++ (less_than ∷ name ++ flat_map pair_text pairs)

-- an end tag, and the end of its line
abbrev pub end_text : List ℕ → List ℕ
end_text name = codes "</" ++ (name ++ codes ">\n")

abbrev pub markup_text : ℕ → Markup → List ℕ
markup_text level nothing = []
markup_text level (both a b) = markup_text level a ++ markup_text level b
markup_text level (words name pairs text) = tag_text level name pairs ++ (greater_than ∷ text ++ end_text name)
markup_text level (empty name pairs) = tag_text level name pairs ++ codes "/>\n"
markup_text level (group name pairs inside) = tag_text level name pairs ++
    (codes ">\n" ++ (markup_text (suc level) inside ++ (indent level ++ end_text name)))

-- Numbers have no trailing zeros. A millionth is 180,000,000,000 ticks, a part of 10^12 is 180,000.
unfoldable pub micro_text : ℤ → List ℕ
micro_text v = short_text (v *ℤ pos 180000000000)

unfoldable pub part_text : ℤ → List ℕ
part_text v = short_text (v *ℤ pos 180000)

-- a lookup table: its pairs, joined by commas
abbrev pub lut_pair_text : LutPair → List ℕ
lut_pair_text p = micro_text p.input ++ colon ∷ micro_text p.output

unfoldable pub next_pair_text : LutPair → List ℕ
next_pair_text p = comma ∷ lut_pair_text p

abbrev pub lut_text : List LutPair → List ℕ
lut_text [] = []
lut_text (p ∷ ps) = lut_pair_text p ++ flat_map next_pair_text ps

abbrev pub pair : List ℕ → List ℕ → Pair
pair name value = record { name = name; value = value }

-- the parts of a source
abbrev pub flag_text : Bool → List ℕ
flag_text relative = if relative then codes "1" else codes "0"

abbrev pub file_markup : Bool → List ℕ → Markup
file_markup relative file =
    words (codes "SourceFilename") (pair (codes "relativeToVRT") (flag_text relative) ∷ []) (escaped file)

abbrev pub source_band_markup : ℕ → Markup
source_band_markup n = words (codes "SourceBand") [] (decimal n)

abbrev pub rectangle_pairs : Rectangle → List Pair
rectangle_pairs r = pair (codes "xOff") (micro_text r.x) ∷ pair (codes "yOff") (micro_text r.y) ∷ pair (codes "xSize")
    (micro_text r.w) ∷ pair (codes "ySize") (micro_text r.h) ∷ []

abbrev pub rectangle_markup : List ℕ → Option Rectangle → Markup
rectangle_markup name None = nothing
rectangle_markup name (Some r) = empty name (rectangle_pairs r)

abbrev pub nodata_markup : List ℕ → Option ℤ → Markup
nodata_markup name None = nothing
nodata_markup name (Some n) = words name [] (signed_decimal n)

-- a number of a scaling has no line where it is the one that changes nothing
abbrev pub scale_markup : List ℕ → ℤ → ℤ → Markup
scale_markup name usual v = if unsigned_abs (v -ℤ usual) == 0 then nothing else words name [] (part_text v)

abbrev pub lut_markup : Option (List LutPair) → Markup
lut_markup None = nothing
lut_markup (Some pairs) = words (codes "LUT") [] (lut_text pairs)

-- what is taken of the source's file, and what becomes of its pixels
abbrev pub place_markup : SourceValue → Markup
place_markup s = both (file_markup s.relative s.file) (both (source_band_markup s.band)
    (both (rectangle_markup (codes "SrcRect") s.src) (rectangle_markup (codes "DstRect") s.dst)))

abbrev pub scaling_markup : SourceValue → Markup
scaling_markup s = both (nodata_markup (codes "NODATA") s.nodata)
    (both (scale_markup (codes "ScaleOffset") (pos 0) s.offset)
    (both (scale_markup (codes "ScaleRatio") (pos trillion) s.ratio) (lut_markup s.lut)))

-- the name of a source's element
abbrev pub source_tag : Bool → List ℕ
source_tag complex = if complex then codes "ComplexSource" else codes "SimpleSource"

abbrev pub source_markup : SourceValue → Markup
source_markup s = group (source_tag s.complex) [] (both (place_markup s) (scaling_markup s))

abbrev pub sources_markup : List SourceValue → Markup
sources_markup [] = nothing
sources_markup (s ∷ ss) = both (source_markup s) (sources_markup ss)

-- the bands, the first of which has this number
abbrev pub band_pairs : ℕ → PixelType → List Pair
band_pairs number kind = pair (codes "dataType") (name_of kind) ∷ pair (codes "band") (decimal number) ∷ []

abbrev pub band_markup : ℕ → BandValue → Markup
band_markup number b = group (codes "VRTRasterBand") (band_pairs number b.kind)
    (both (nodata_markup (codes "NoDataValue") b.nodata) (sources_markup b.sources))

abbrev pub bands_markup : ℕ → List BandValue → Markup
bands_markup number [] = nothing
bands_markup number (b ∷ bs) = both (band_markup number b) (bands_markup (suc number) bs)

-- the parts of the dataset
abbrev pub srs_markup : Option (List ℕ) → Markup
srs_markup None = nothing
srs_markup (Some text) = words (codes "SRS") [] (escaped text)

unfoldable pub joined_text : ℤ → List ℕ → ℤ → List ℕ
joined_text a between b = short_text a ++ (between ++ short_text b)

abbrev pub geo_text : Transform → List ℕ
geo_text g = joined_text g.ox (codes ", ") g.dx ++ (codes ", 0, " ++ joined_text g.oy (codes ", 0, ") g.dy)

abbrev pub geo_markup : Option Transform → Markup
geo_markup None = nothing
geo_markup (Some g) = words (codes "GeoTransform") [] (geo_text g)

abbrev pub size_pairs : Size → List Pair
size_pairs s = pair (codes "rasterXSize") (decimal s.w) ∷ pair (codes "rasterYSize") (decimal s.h) ∷ []

abbrev pub parts_markup : DocumentValue → Markup
parts_markup d = both (srs_markup d.srs) (both (geo_markup d.geo) (bands_markup 1 d.bands))

abbrev pub dataset_markup : DocumentValue → Markup
dataset_markup d = group (codes "VRTDataset") (size_pairs d.size) (parts_markup d)

-- the text of a document
unfoldable pub spelled : DocumentValue → List ℕ
spelled d = markup_text 0 (dataset_markup d)
