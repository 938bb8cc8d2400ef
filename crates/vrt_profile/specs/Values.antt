-- The values of a VRT document, and the rules that they keep.
use Rattle.std.specs.Prelude.{◌≡◌, ℕ, ℤ, pos, ◌<◌, ◌≤◌, ◌*◌, ◌^◌, ◌%◌, ◌<ℤ◌, Bool, true, false, ◌&&◌, List, [], ◌∷◌}
use Rattle.std.specs.Prelude.{length, map, sum, Option, None, IfSome, IsUtf8, unsigned_abs, int_lt}
use Rattle.std.specs.List.{All}
use Rattle.geotransform.specs.Geo.{Transform, IsTransform, IsRaster}
use Rattle.geotransform.specs.Types.{is_in}
use Rattle.geotransform.specs.declared.types.PixelType.{PixelType}
use Rattle.geotransform.specs.declared.types.Size.{Size}
use Rattle.vrt_profile.specs.declared.rectangle.LutPair.{LutPair}
use Rattle.geotransform.specs.Limits.{farthest, most_bands, whole_limit}

-- The greatest length of a document, in bytes.
abbrev pub longest_document : ℕ
longest_document = 2 ^ 26

-- The most sources of all bands of a document, and of all mosaics of a catalog.
abbrev pub most_sources : ℕ
most_sources = 262144

-- The most pairs of a lookup table.
abbrev pub most_pairs : ℕ
most_pairs = 65536

-- millionths of a pixel
abbrev pub million : ℕ
million = 1000000

-- parts of 10^12, in which offsets and ratios of a scaling are counted
abbrev pub trillion : ℕ
trillion = 10 ^ 12

-- each offset and each ratio has less than so many of these parts, in magnitude
abbrev pub scale_limit : ℕ
scale_limit = 10 ^ 24

-- the numbers of a lookup table stay below it in magnitude
abbrev pub pair_limit : ℕ
pair_limit = 5000000000

-- a rectangle in millionths of a pixel
pub record Rectangle : Type 0 where
  pub x : ℤ
  pub y : ℤ
  pub w : ℤ
  pub h : ℤ

-- the limits of a rectangle
abbrev pub IsOffset : ℤ → Type 0
IsOffset v = unsigned_abs v ≤ farthest * million

pub record IsRectangle (r : Rectangle) : Type 0 where
  pub left : IsOffset r.x
  pub top : IsOffset r.y
  pub some_width : pos 0 <ℤ r.w
  pub some_height : pos 0 <ℤ r.h
  pub width : IsOffset r.w
  pub height : IsOffset r.h

-- whether the inputs rise strictly from each pair to the next
abbrev pub is_below : ℤ → List LutPair → Bool
is_below input [] = true
is_below input (p ∷ ps) = int_lt input p.input

abbrev pub is_rising : List LutPair → Bool
is_rising [] = true
is_rising (p ∷ ps) = is_below p.input ps && is_rising ps

-- both numbers, in millionths, are below their limit
pub record IsPair (p : LutPair) : Type 0 where
  pub input : unsigned_abs p.input < pair_limit * million
  pub output : unsigned_abs p.output < pair_limit * million

-- the rules of a table
pub record IsLut (pairs : List LutPair) : Type 0 where
  pub some : 0 < length pairs
  pub few : length pairs ≤ most_pairs
  pub rising : is_rising pairs ≡ true
  pub near : All IsPair pairs

-- a source of a band
pub record SourceValue : Type 0 where
  pub complex : Bool
  pub relative : Bool
  pub file : List ℕ
  pub band : ℕ
  pub src : Option Rectangle
  pub dst : Option Rectangle
  pub nodata : Option ℤ
  pub offset : ℤ
  pub ratio : ℤ
  pub lut : Option (List LutPair)

-- a source that isn't complex changes no pixel
pub record IsSimple (s : SourceValue) : Type 0 where
  pub nodata : s.nodata ≡ None
  pub offset : s.offset ≡ pos 0
  pub ratio : s.ratio ≡ pos trillion
  pub lut : s.lut ≡ None

-- the rules of a source
pub record IsSource (s : SourceValue) : Type 0 where
  pub named : 0 < length s.file
  pub text : IsUtf8 s.file
  pub some_band : 0 < s.band
  pub band : s.band ≤ most_bands
  pub src : IfSome s.src IsRectangle
  pub dst : IfSome s.dst IsRectangle
  pub nodata : IfSome s.nodata (λ n. unsigned_abs n < whole_limit)
  pub offset : unsigned_abs s.offset < scale_limit
  pub ratio : unsigned_abs s.ratio < scale_limit
  pub lut : IfSome s.lut IsLut
  pub simple : s.complex ≡ false → IsSimple s

-- a band
pub record BandValue : Type 0 where
  pub kind : PixelType
  pub nodata : Option ℤ
  pub sources : List SourceValue

-- the rules of a band
pub record IsBand (b : BandValue) : Type 0 where
  pub nodata : IfSome b.nodata (λ n. is_in b.kind n ≡ true)
  pub sources : All IsSource b.sources

-- a document
pub record DocumentValue : Type 0 where
  pub size : Size
  pub srs : Option (List ℕ)
  pub geo : Option Transform
  pub bands : List BandValue

-- the sources of all bands
abbrev pub source_count : List BandValue → ℕ
source_count bands = sum (map (λ b. length b.sources) bands)

-- a geotransform of decimals with 16 places
pub record IsDecimal (g : Transform) : Type 0 where
  pub transform : IsTransform g
  pub ox : unsigned_abs g.ox % 18 ≡ 0
  pub oy : unsigned_abs g.oy % 18 ≡ 0
  pub dx : unsigned_abs g.dx % 18 ≡ 0
  pub dy : unsigned_abs g.dy % 18 ≡ 0

-- the rules of a document
pub record IsDocument (d : DocumentValue) : Type 0 where
  pub size : IsRaster d.size
  pub srs : IfSome d.srs IsUtf8
  pub geo : IfSome d.geo IsDecimal
  pub some : 0 < length d.bands
  pub few : length d.bands ≤ most_bands
  pub sources : source_count d.bands ≤ most_sources
  pub bands : All IsBand d.bands
