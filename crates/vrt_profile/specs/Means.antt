-- What document a tree means: element by element, in their order.
use Rattle.std.specs.Prelude.{ℕ, ℤ, pos, suc, ◌+◌, Bool, true, false, not, ◌&&◌, ◌||◌, List, [], ◌∷◌, ◌++◌, length}
use Rattle.std.specs.Prelude.{ok_or, Option, Some, None, Result, Ok, Err, ◌==◌, nat_le, if◌then◌else◌, codes}
use Rattle.std.specs.Str.{is_utf8}
use Rattle.std.specs.Option.{unwrap_or}
use Rattle.lists_and_answers.specs.Answers.{◌>>=◌, wants}
use Rattle.lists_and_answers.specs.Texts.{same_letters}
use Rattle.geotransform.specs.Decimal.{whole_of}
use Rattle.geotransform.specs.Geo.{Transform}
use Rattle.geotransform.specs.Types.{type_named, when_in}
use Rattle.geotransform.specs.declared.types.PixelType.{PixelType}
use Rattle.geotransform.specs.declared.types.PixelType.TheVariants.{Byte}
use Rattle.vrt_markup.specs.Items.{Tag, is_equal, attribute, is_some}
use Rattle.vrt_profile.specs.Fields.{trim, whole_text}
use Rattle.vrt_profile.specs.Numbers.{side_in, offset_in, size_in, band_number, scale_of, lut_of, geo_of}
use Rattle.vrt_markup.specs.Forest.{Forest, over, all_white, text_of, child_of}
use Rattle.vrt_markup.specs.Kept.{no_child}
use Rattle.vrt_profile.specs.Values.{trillion, Rectangle, SourceValue, BandValue, DocumentValue, most_sources}
use Rattle.vrt_profile.specs.declared.rectangle.LutPair.{LutPair}
use Rattle.vrt_profile.specs.declared.elements.SourcePart.{SourcePart}
use Rattle.vrt_profile.specs.declared.elements.SourcePart.TheVariants as source_part
use Rattle.vrt_profile.specs.declared.elements.NumberPart.{NumberPart}
use Rattle.vrt_profile.specs.declared.elements.NumberPart.TheVariants as number_part
use Rattle.vrt_profile.specs.declared.elements.BandPart.{BandPart}
use Rattle.vrt_profile.specs.declared.elements.BandPart.TheVariants as band_part
use Rattle.vrt_profile.specs.declared.elements.DatasetPart.{DatasetPart}
use Rattle.vrt_profile.specs.declared.elements.DatasetPart.TheVariants as dataset_part
use Rattle.vrt_markup.specs.declared.fault.VrtFault.{VrtFault}
use Rattle.vrt_markup.specs.declared.fault.VrtFault.TheVariants.{UnknownElement, MissingPart, BadNumber, Unsupported}
use Rattle.vrt_markup.specs.declared.fault.VrtFault.TheVariants.{Limit}
use Rattle.geotransform.specs.Limits.{most_bands}

-- The names of the elements that are read past in VRTDataset and in VRTRasterBand.
abbrev pub is_remark : List ℕ → Bool
is_remark name =
    is_equal name (codes "Metadata") || (is_equal name (codes "Description") || (is_equal name (codes "UnitType") ||
    (is_equal name (codes "Offset") || is_equal name (codes "Scale"))))

abbrev pub is_picture : List ℕ → Bool
is_picture name =
    is_equal name (codes "ColorInterp") || (is_equal name (codes "ColorTable") ||
    (is_equal name (codes "CategoryNames") ||
    (is_equal name (codes "Histograms") || is_equal name (codes "OverviewList"))))

abbrev pub is_past : List ℕ → Bool
is_past name = is_remark name || is_picture name

-- what an element of this name is in VRTDataset, and in VRTRasterBand
abbrev pub dataset_part_of : List ℕ → DatasetPart
dataset_part_of name =
    if is_equal name (codes "SRS") then dataset_part.Srs else (
    if is_equal name (codes "GeoTransform") then dataset_part.Geo else (
    if is_equal name (codes "VRTRasterBand") then dataset_part.Band else (
    if is_past name then dataset_part.Past else dataset_part.Unknown)))

abbrev pub band_part_of : List ℕ → BandPart
band_part_of name =
    if is_equal name (codes "NoDataValue") then band_part.NoData else (
    if is_equal name (codes "SimpleSource") then band_part.Simple else (
    if is_equal name (codes "ComplexSource") then band_part.Complex else (
    if is_past name then band_part.Past else band_part.Unknown)))

-- which part of a source's scaling an element of this name gives, if it gives one
abbrev pub scaling_of : List ℕ → Option NumberPart
scaling_of name =
    if is_equal name (codes "NODATA") then Some number_part.NoData else (
    if is_equal name (codes "ScaleOffset") then Some number_part.Offset else (
    if is_equal name (codes "ScaleRatio") then Some number_part.Ratio else (
    if is_equal name (codes "LUT") then Some number_part.Lut else None)))

-- such an element counts in a ComplexSource, and is read past in a SimpleSource
abbrev pub scaling_part : Bool → Option NumberPart → SourcePart
scaling_part complex None = source_part.Unknown
scaling_part complex (Some part) = if complex then source_part.Number part else source_part.Past

-- what an element of this name is in a source
abbrev pub source_part_of : Bool → List ℕ → SourcePart
source_part_of complex name =
    if is_equal name (codes "SourceFilename") then source_part.File else (
    if is_equal name (codes "SourceBand") then source_part.Number number_part.Band else (
    if is_equal name (codes "SourceProperties") then source_part.Past else (
    if is_equal name (codes "SrcRect") then source_part.Src else (
    if is_equal name (codes "DstRect") then source_part.Dst else scaling_part complex (scaling_of name)))))

-- In an element that holds text or attributes alone any element is unknown, and found behind what its text means.
abbrev pub childless : {A : Type 0} → Option ℕ → A → Result A VrtFault
childless None x = Ok x
childless (Some place) x = Err (UnknownElement place)

-- A text that is kept. In a file that is UTF-8 each run of text is.
abbrev pub kept_text : List ℕ → Result (List ℕ) VrtFault
kept_text text = if is_utf8 text then Ok text else Err Unsupported

-- the text of an element that holds text alone
abbrev pub text_in : List ℕ → Option ℕ → Result (List ℕ) VrtFault
text_in text child = do
  kept ← kept_text text
  childless child kept

-- SourceFilename: the flag first, then what stands in it
pub record File : Type 0 where
  pub relative : Bool
  pub name : List ℕ

-- relativeToVRT is 0 or 1, and 0 where it doesn't stand
abbrev pub flag_by : List ℕ → Result Bool VrtFault
flag_by text =
    if is_equal text (codes "0") then Ok false else (if is_equal text (codes "1") then Ok true else Err BadNumber)

abbrev pub flag_in : Option (List ℕ) → Result Bool VrtFault
flag_in None = Ok false
flag_in (Some text) = flag_by text

abbrev pub file_of : Tag → Forest → Result File VrtFault
file_of tag inside = do
  relative ← flag_in (attribute (codes "relativeToVRT") tag.pairs)
  name ← text_in (text_of inside) (child_of inside)
  Ok (record { relative = relative; name = name })

-- SrcRect and DstRect: their attributes in order, then text, then a child
unfoldable pub rect_of : Tag → Forest → Result Rectangle VrtFault
rect_of tag inside = do
  x ← offset_in (attribute (codes "xOff") tag.pairs)
  y ← offset_in (attribute (codes "yOff") tag.pairs)
  w ← size_in (attribute (codes "xSize") tag.pairs)
  h ← size_in (attribute (codes "ySize") tag.pairs)
  white ← wants (all_white inside) Unsupported
  bare ← over no_child true inside
  Ok (record { x = x; y = y; w = w; h = h })

-- elements whose text is a number, by their text and a child of them
abbrev pub source_band_by : List ℕ → Option ℕ → Result ℕ VrtFault
source_band_by text child = do
  band ← band_number (trim text)
  childless child band

abbrev pub nodata_by : List ℕ → Option ℕ → Result (Option ℤ) VrtFault
nodata_by text child = childless child (whole_of (trim text))

abbrev pub scale_text : List ℕ → Option ℕ → Result ℤ VrtFault
scale_text text child = do
  scale ← scale_of text
  childless child scale

abbrev pub lut_by : List ℕ → Option ℕ → Result (List LutPair) VrtFault
lut_by text child = do
  lut ← lut_of text
  childless child lut

-- A source: what is read of it so far, one element after the other.
pub record SourceParts : Type 0 where
  pub file : Option File
  pub band : Option ℕ
  pub src : Option Rectangle
  pub dst : Option Rectangle
  pub nodata : Option (Option ℤ)
  pub offset : Option ℤ
  pub ratio : Option ℤ
  pub lut : Option (List LutPair)

abbrev pub no_parts : SourceParts
no_parts = record {
  file = None;
  band = None;
  src = None;
  dst = None;
  nodata = None;
  offset = None;
  ratio = None;
  lut = None;
}

-- a part that may stand once
abbrev pub once : {A B : Type 0} → Option A → Result A VrtFault → (A → B) → Result B VrtFault
once (Some x) new put = Err Unsupported
once None (Ok x) put = Ok (put x)
once None (Err e) put = Err e

-- The parts with one more, each of which may stand once.
abbrev pub with_file : SourceParts → Result File VrtFault → Result SourceParts VrtFault
with_file s new = once s.file new (λ x. record s { file = Some x })

abbrev pub with_band : SourceParts → Result ℕ VrtFault → Result SourceParts VrtFault
with_band s new = once s.band new (λ x. record s { band = Some x })

abbrev pub with_src : SourceParts → Result Rectangle VrtFault → Result SourceParts VrtFault
with_src s new = once s.src new (λ x. record s { src = Some x })

abbrev pub with_dst : SourceParts → Result Rectangle VrtFault → Result SourceParts VrtFault
with_dst s new = once s.dst new (λ x. record s { dst = Some x })

abbrev pub with_nodata : SourceParts → Result (Option ℤ) VrtFault → Result SourceParts VrtFault
with_nodata s new = once s.nodata new (λ x. record s { nodata = Some x })

abbrev pub with_offset : SourceParts → Result ℤ VrtFault → Result SourceParts VrtFault
with_offset s new = once s.offset new (λ x. record s { offset = Some x })

abbrev pub with_ratio : SourceParts → Result ℤ VrtFault → Result SourceParts VrtFault
with_ratio s new = once s.ratio new (λ x. record s { ratio = Some x })

abbrev pub with_lut : SourceParts → Result (List LutPair) VrtFault → Result SourceParts VrtFault
with_lut s new = once s.lut new (λ x. record s { lut = Some x })

-- the parts with that of an element that holds a number
abbrev pub number_parts : SourceParts → List ℕ → Option ℕ → NumberPart → Result SourceParts VrtFault
number_parts s text child number_part.Band = with_band s (source_band_by text child)
number_parts s text child number_part.NoData = with_nodata s (nodata_by text child)
number_parts s text child number_part.Offset = with_offset s (scale_text text child)
number_parts s text child number_part.Ratio = with_ratio s (scale_text text child)
number_parts s text child number_part.Lut = with_lut s (lut_by text child)

-- the parts behind one more element, by what it is
abbrev pub source_parts : SourceParts → ℕ → Tag → Forest → SourcePart → Result SourceParts VrtFault
source_parts s place tag inside source_part.File = with_file s (file_of tag inside)
source_parts s place tag inside source_part.Src = with_src s (rect_of tag inside)
source_parts s place tag inside source_part.Dst = with_dst s (rect_of tag inside)
source_parts s place tag inside (source_part.Number part) = number_parts s (text_of inside) (child_of inside) part
source_parts s place tag inside source_part.Past = Ok s
source_parts s place tag inside source_part.Unknown = Err (UnknownElement place)

abbrev pub source_step : Bool → SourceParts → ℕ → Tag → Forest → Result SourceParts VrtFault
source_step complex s place tag inside = source_parts s place tag inside (source_part_of complex tag.name)

-- the value of an element, where it stands and has one
abbrev pub value_in : Option (Option ℤ) → Option ℤ
value_in None = None
value_in (Some value) = value

-- The source that these parts make; only a complex one changes pixels.
abbrev pub source_from : Bool → File → SourceParts → SourceValue
source_from complex file p = record {
  complex = complex;
  relative = file.relative;
  file = file.name;
  band = unwrap_or p.band 1;
  src = p.src;
  dst = p.dst;
  nodata = if complex then value_in p.nodata else None;
  offset = if complex then unwrap_or p.offset (pos 0) else pos 0;
  ratio = if complex then unwrap_or p.ratio (pos trillion) else pos trillion;
  lut = if complex then p.lut else None;
}

-- the file's name is needed, and not empty
abbrev pub source_named : Bool → SourceParts → Option File → Result SourceValue VrtFault
source_named complex p None = Err MissingPart
source_named complex p (Some file) = if length file.name == 0 then Err MissingPart else Ok (source_from complex file p)

abbrev pub source_end : Bool → SourceParts → Result SourceValue VrtFault
source_end complex p = source_named complex p p.file

-- whether resampling, where it stands, is the nearest pixel
abbrev pub is_nearest : Option (List ℕ) → Bool
is_nearest None = true
is_nearest (Some text) = same_letters text (codes "nearest") || same_letters text (codes "near")

-- in order: its attributes and text in it, its children, what is missing
abbrev pub source_of : Bool → Tag → Forest → Result SourceValue VrtFault
source_of complex tag inside = do
  plain ← wants (is_nearest (attribute (codes "resampling") tag.pairs) && all_white inside) Unsupported
  parts ← over (source_step complex) no_parts inside
  source_end complex parts

-- A band: what is read of it so far, where so many sources were taken before it.
pub record BandParts : Type 0 where
  pub taken : ℕ
  pub nodata : Option (Option ℤ)
  pub sources : List SourceValue

abbrev pub no_band_parts : ℕ → BandParts
no_band_parts taken = record { taken = taken; nodata = None; sources = [] }

abbrev pub with_no_data_value : BandParts → Result (Option ℤ) VrtFault → Result BandParts VrtFault
with_no_data_value s new = once s.nodata new (λ x. record s { nodata = Some x })

-- a source past the limit is found before anything else of it
abbrev pub with_source : BandParts → Result SourceValue VrtFault → Result BandParts VrtFault
with_source s source = if nat_le most_sources (s.taken + length s.sources) then Err Limit
    else (source >>= λ x. Ok (record s { sources = s.sources ++ x ∷ [] }))

abbrev pub band_parts : BandParts → ℕ → Tag → Forest → BandPart → Result BandParts VrtFault
band_parts s place tag inside band_part.NoData = with_no_data_value s (nodata_by (text_of inside) (child_of inside))
band_parts s place tag inside band_part.Simple = with_source s (source_of false tag inside)
band_parts s place tag inside band_part.Complex = with_source s (source_of true tag inside)
band_parts s place tag inside band_part.Past = Ok s
band_parts s place tag inside band_part.Unknown = Err (UnknownElement place)

abbrev pub band_step : BandParts → ℕ → Tag → Forest → Result BandParts VrtFault
band_step s place tag inside = band_parts s place tag inside (band_part_of tag.name)

-- the type that dataType names, Byte where it doesn't stand
abbrev pub kind_in : Option (List ℕ) → Result PixelType VrtFault
kind_in None = Ok Byte
kind_in (Some text) = ok_or (type_named false text) Unsupported

-- `band`, where it stands, is the band's place, from 1
abbrev pub is_number : ℕ → Option ℕ → Bool
is_number number None = false
is_number number (Some n) = n == number

abbrev pub is_placed : ℕ → Option (List ℕ) → Bool
is_placed number None = true
is_placed number (Some text) = is_number number (whole_text text)

-- subClass, where it stands, is VRTSourcedRasterBand
abbrev pub is_sourced : Option (List ℕ) → Bool
is_sourced None = true
is_sourced (Some text) = is_equal text (codes "VRTSourcedRasterBand")

-- a band, with its NODATA where its type has it
abbrev pub band_end : PixelType → BandParts → Result BandValue VrtFault
band_end kind p = Ok (record { kind = kind; nodata = when_in kind (value_in p.nodata); sources = p.sources })

-- in order: its attributes and text in it, its children
abbrev pub band_of : ℕ → ℕ → Tag → Forest → Result BandValue VrtFault
band_of number taken tag inside = do
  kind ← kind_in (attribute (codes "dataType") tag.pairs)
  placed ← wants (is_placed number (attribute (codes "band") tag.pairs)) BadNumber
  plain ← wants (is_sourced (attribute (codes "subClass") tag.pairs) && all_white inside) Unsupported
  parts ← over band_step (no_band_parts taken) inside
  band_end kind parts

-- The dataset: what is read of it so far.
pub record DatasetParts : Type 0 where
  pub srs : Option (List ℕ)
  pub geo : Option Transform
  pub bands : List BandValue
  -- the sources of these bands
  pub taken : ℕ

abbrev pub no_dataset_parts : DatasetParts
no_dataset_parts = record { srs = None; geo = None; bands = []; taken = 0 }

abbrev pub with_srs : DatasetParts → Result (List ℕ) VrtFault → Result DatasetParts VrtFault
with_srs s new = once s.srs new (λ x. record s { srs = Some x })

abbrev pub with_geo : DatasetParts → Result Transform VrtFault → Result DatasetParts VrtFault
with_geo s new = once s.geo new (λ x. record s { geo = Some x })

-- a band past the limit is found before anything else of it
abbrev pub with_raster_band : DatasetParts → Result BandValue VrtFault → Result DatasetParts VrtFault
with_raster_band s band = if nat_le most_bands (length s.bands) then Err Limit
    else (band >>= λ b. Ok (record s { bands = s.bands ++ b ∷ []; taken = s.taken + length b.sources }))

abbrev pub srs_by : List ℕ → Option ℕ → Result (List ℕ) VrtFault
srs_by text child = text_in text child

abbrev pub geo_by : List ℕ → Option ℕ → Result Transform VrtFault
geo_by text child = do
  geo ← geo_of text
  childless child geo

abbrev pub dataset_parts : DatasetParts → ℕ → Tag → Forest → DatasetPart → Result DatasetParts VrtFault
dataset_parts s place tag inside dataset_part.Srs = with_srs s (srs_by (text_of inside) (child_of inside))
dataset_parts s place tag inside dataset_part.Geo = with_geo s (geo_by (text_of inside) (child_of inside))
dataset_parts s place tag inside dataset_part.Band =
    with_raster_band s (band_of (suc (length s.bands)) s.taken tag inside)
dataset_parts s place tag inside dataset_part.Past = Ok s
dataset_parts s place tag inside dataset_part.Unknown = Err (UnknownElement place)

abbrev pub dataset_step : DatasetParts → ℕ → Tag → Forest → Result DatasetParts VrtFault
dataset_step s place tag inside = dataset_parts s place tag inside (dataset_part_of tag.name)

abbrev pub dataset_end : ℕ → ℕ → DatasetParts → Result DocumentValue VrtFault
dataset_end w h p = if length p.bands == 0 then Err MissingPart else Ok (record {
  size = record { w = w; h = h };
  srs = p.srs;
  geo = p.geo;
  bands = p.bands;
})

-- in order: its attributes and text in it, its children, what is missing
unfoldable pub dataset_of : Tag → Forest → Result DocumentValue VrtFault
dataset_of tag inside = do
  w ← side_in (attribute (codes "rasterXSize") tag.pairs)
  h ← side_in (attribute (codes "rasterYSize") tag.pairs)
  plain ← wants (not (is_some (attribute (codes "subClass") tag.pairs)) && all_white inside) Unsupported
  parts ← over dataset_step no_dataset_parts inside
  dataset_end w h parts

abbrev pub root_of : ℕ → Tag → Forest → Result DocumentValue VrtFault
root_of place tag inside = if is_equal tag.name (codes "VRTDataset") then dataset_of tag inside
    else Err (UnknownElement place)
