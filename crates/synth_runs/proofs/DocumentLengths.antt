-- How long the texts of documents of few sources are.
use Rattle.std.proofs.Common.{◌≡◌, ℕ, ℤ, pos, negsuc, suc, ◌+◌, ◌*◌, ◌^◌, ◌<◌, ◌≤◌, ◌*ℤ◌, ◌-ℤ◌, ◌==◌, Bool, true, false, cond, List, [], ◌∷◌, ◌++◌, length, length-append, flat_map, codes, Option, Some, None, IfSome, unsigned_abs, arith}
use Rattle.std.specs.List.{All}
use Rattle.std.specs.Fmt.{decimal, signed_decimal}
use Rattle.std.proofs.lemmas.Fmt.{length-decimal-le_wide}
use Rattle.std.proofs.lemmas.Int.{unsigned_abs-mul}
use Rattle.std.proofs.lemmas.List.{length-replicate}
use Rattle.std.proofs.lemmas.List.Elements.{All-head, All-tail}
use Rattle.geotransform.specs.Geo.{Transform}
use Rattle.geotransform.specs.Print.{short_text}
use Rattle.geotransform.specs.Types.{name_of}
use Rattle.geotransform.specs.declared.types.PixelType.{PixelType}
use Rattle.geotransform.specs.declared.types.PixelType.TheVariants.{Byte, Int8, UInt16, Int16, UInt32, Int32, UInt64, Int64}
use Rattle.geotransform.specs.declared.types.Size.{Size}
use Rattle.geotransform.proofs.RoundTrip.{decimal_word, short_word}
use Rattle.vrt_markup.specs.Items.{Pair}
use Rattle.vrt_profile.specs.Values.{trillion, IsOffset, Rectangle, IsRectangle, SourceValue, IsSource, BandValue, IsBand, DocumentValue, IsDocument, IsDecimal}
use Rattle.vrt_writing.specs.Spelled.{Markup, nothing, both, words, empty, group, markup_text, indent, tag_text, pair_text, end_text, escape, escaped, micro_text, part_text, joined_text, geo_text, flag_text, pair, file_markup, source_band_markup, rectangle_pairs, rectangle_markup, nodata_markup, scale_markup, lut_markup, place_markup, scaling_markup, source_tag, source_markup, sources_markup, band_pairs, band_markup, geo_markup, size_pairs, parts_markup, spelled}
use Rattle.vrt_profile.specs.declared.rectangle.LutPair.{LutPair}

-- the text of markup has at most so many bytes
pub record IsWithin (k level : ℕ) (m : Markup) : Type 0 where
  pub long : length (markup_text level m) ≤ k

-- so has that of attributes
pub record AreWithin (k : ℕ) (pairs : List Pair) : Type 0 where
  pub long : length (flat_map pair_text pairs) ≤ k

-- tags
tag_long : (level : ℕ) (name : List ℕ) (pairs : List Pair) → length (tag_text level name pairs) ≡ 2 * level + (1 + (length name + length (flat_map pair_text pairs)))
tag_long level name pairs =
    let spaces : length (indent level) ≡ 2 * level = length-replicate (2 * level) 32 in
    omega (arith, spaces, length-append (indent level) (60 ∷ name ++ flat_map pair_text pairs), length-append name (flat_map pair_text pairs))

end_long : (name : List ℕ) → length (end_text name) ≡ 4 + length name
end_long name = omega (arith, length-append name (codes ">\n"))

no_pairs : AreWithin 0 []
no_pairs = record { long = omega arith }

more_pairs : (i j : ℕ) (name value : List ℕ) (pairs : List Pair) → length name ≤ 20 → length value ≤ i → AreWithin j pairs → AreWithin (i + j + 30) (pair name value ∷ pairs)
more_pairs i j name value pairs few short rest = record {
  long = let long = rest.long in omega (arith, long, length-append (pair_text (pair name value)) (flat_map pair_text pairs), length-append name (codes "=\"" ++ (value ++ 34 ∷ [])), length-append value (34 ∷ []));
}

-- elements
none_within : (level : ℕ) → IsWithin 0 level nothing
none_within level = record { long = omega arith }

wider : (i j level : ℕ) (m : Markup) → i ≤ j → IsWithin i level m → IsWithin j level m
wider i j level m less within = record { long = let long = within.long in omega (arith, less, long) }

both_within : (i j level : ℕ) (a b : Markup) → IsWithin i level a → IsWithin j level b → IsWithin (i + j) level (both a b)
both_within i j level a b first second = record {
  long = let first_long = first.long in let second_long = second.long in omega (arith, first_long, second_long, length-append (markup_text level a) (markup_text level b));
}

words_within : (i j level : ℕ) (name : List ℕ) (pairs : List Pair) (text : List ℕ) → level ≤ 4 → length name ≤ 40 → AreWithin i pairs → length text ≤ j → IsWithin (i + j + 100) level (words name pairs text)
words_within i j level name pairs text low few known short = record {
  long = let long = known.long in omega (arith, long, low, few, short, length-append (tag_text level name pairs) (62 ∷ text ++ end_text name), length-append text (end_text name), tag_long level name pairs, end_long name);
}

empty_within : (i level : ℕ) (name : List ℕ) (pairs : List Pair) → level ≤ 4 → length name ≤ 40 → AreWithin i pairs → IsWithin (i + 100) level (empty name pairs)
empty_within i level name pairs low few known = record {
  long = let long = known.long in omega (arith, long, low, few, length-append (tag_text level name pairs) (codes "/>\n"), tag_long level name pairs);
}

group_within : (i k level : ℕ) (name : List ℕ) (pairs : List Pair) (inside : Markup) → level ≤ 4 → length name ≤ 40 → AreWithin i pairs → IsWithin k (suc level) inside → IsWithin (i + k + 200) level (group name pairs inside)
group_within i k level name pairs inside low few known within = record {
  long =
      let long = known.long in
      let whole = within.long in
      let spaces : length (indent level) ≡ 2 * level = length-replicate (2 * level) 32 in
      omega (arith, long, whole, low, few, spaces, length-append (tag_text level name pairs) (codes ">\n" ++ (markup_text (suc level) inside ++ (indent level ++ end_text name))), length-append (markup_text (suc level) inside) (indent level ++ end_text name), length-append (indent level) (end_text name), tag_long level name pairs, end_long name);
}

either_within : (k level : ℕ) (m : Markup) (b : Bool) → IsWithin k level m → IsWithin k level (cond b nothing m)
either_within k level m true within = record { long = omega arith }
either_within k level m false within = within

-- texts of numbers
count_short : (n : ℕ) → n < 10 ^ 18 → length (decimal n) ≤ 40
count_short n small = (decimal_word n (omega (arith, small))).short

wide_short : (n : ℕ) → n < 10 ^ 20 → length (decimal n) ≤ 20
wide_short n small = length-decimal-le_wide 20 n (omega arith) small (omega arith)

signed_short : (n : ℤ) → unsigned_abs n < 10 ^ 20 → length (signed_decimal n) ≤ 40
signed_short (pos n) small = omega (arith, wide_short n small)
signed_short (negsuc n) small = omega (arith, wide_short (suc n) small)

micro_short : (v : ℤ) → IsOffset v → length (micro_text v) ≤ 40
unfolding micro_text
micro_short v near =
    let size : unsigned_abs (v *ℤ pos 180000000000) ≡ unsigned_abs v * 180000000000 = unsigned_abs-mul v (pos 180000000000) in
    (short_word (v *ℤ pos 180000000000) (omega (arith, size)) (omega (arith, size, near))).short

part_short : (v : ℤ) → unsigned_abs v < trillion * trillion → length (part_text v) ≤ 40
unfolding part_text
part_short v near =
    let size : unsigned_abs (v *ℤ pos 180000) ≡ unsigned_abs v * 180000 = unsigned_abs-mul v (pos 180000) in
    (short_word (v *ℤ pos 180000) (omega (arith, size)) (omega (arith, size, near))).short

-- other texts
flag_short : (b : Bool) → length (flag_text b) ≤ 1
flag_short true = omega arith
flag_short false = omega arith

kind_short : (kind : PixelType) → length (name_of kind) ≤ 40
kind_short Byte = omega arith
kind_short Int8 = omega arith
kind_short UInt16 = omega arith
kind_short Int16 = omega arith
kind_short UInt32 = omega arith
kind_short Int32 = omega arith
kind_short UInt64 = omega arith
kind_short Int64 = omega arith

tag_short : (complex : Bool) → length (source_tag complex) ≤ 40
tag_short true = omega arith
tag_short false = omega arith

either_short : (b : Bool) (x y : List ℕ) → length x ≤ 6 → length y ≤ 6 → length (cond b x y) ≤ 6
either_short true x y first second = first
either_short false x y first second = second

escape_short : (c : ℕ) → length (escape c) ≤ 6
escape_short c =
    either_short (c == 38) (codes "&amp;") _ (omega arith)
    (either_short (c == 60) (codes "&lt;") _ (omega arith)
    (either_short (c == 62) (codes "&gt;") _ (omega arith)
    (either_short (c == 34) (codes "&quot;") _ (omega arith)
    (either_short (c == 39) (codes "&apos;") (c ∷ []) (omega arith) (omega arith)))))

escaped_short : (text : List ℕ) → length (escaped text) ≤ 6 * length text
escaped_short [] = omega arith
escaped_short (c ∷ cs) = omega (arith, length-append (escape c) (escaped cs), escape_short c, escaped_short cs)

-- the parts of a source
file_within : (relative : Bool) (file : List ℕ) → length file ≤ 40 → IsWithin 371 3 (file_markup relative file)
file_within relative file few =
    words_within 31 240 3 (codes "SourceFilename") (pair (codes "relativeToVRT") (flag_text relative) ∷ []) (escaped file) (omega arith) (omega arith)
    (more_pairs 1 0 (codes "relativeToVRT") (flag_text relative) [] (omega arith) (flag_short relative) no_pairs)
    (omega (arith, few, escaped_short file))

band_within : (n : ℕ) → n ≤ 256 → IsWithin 140 3 (source_band_markup n)
band_within n few = words_within 0 40 3 (codes "SourceBand") [] (decimal n) (omega arith) (omega arith) no_pairs (count_short n (omega (arith, few)))

rectangle_short : (r : Rectangle) → IsRectangle r → AreWithin 280 (rectangle_pairs r)
rectangle_short r is =
    more_pairs 40 210 (codes "xOff") (micro_text r.x) _ (omega arith) (micro_short r.x is.left)
    (more_pairs 40 140 (codes "yOff") (micro_text r.y) _ (omega arith) (micro_short r.y is.top)
    (more_pairs 40 70 (codes "xSize") (micro_text r.w) _ (omega arith) (micro_short r.w is.width)
    (more_pairs 40 0 (codes "ySize") (micro_text r.h) [] (omega arith) (micro_short r.h is.height) no_pairs)))

rectangle_within : (name : List ℕ) (r : Option Rectangle) → length name ≤ 40 → IfSome r IsRectangle → IsWithin 380 3 (rectangle_markup name r)
rectangle_within name None few is = wider 0 380 3 nothing (omega arith) (none_within 3)
rectangle_within name (Some r) few is = empty_within 280 3 name (rectangle_pairs r) (omega arith) few (rectangle_short r is)

nodata_within : (level : ℕ) (name : List ℕ) (n : Option ℤ) → level ≤ 4 → length name ≤ 40 → IfSome n (λ v. unsigned_abs v < 10 ^ 20) → IsWithin 140 level (nodata_markup name n)
nodata_within level name None low few small = wider 0 140 level nothing (omega arith) (none_within level)
nodata_within level name (Some n) low few small = words_within 0 40 level name [] (signed_decimal n) low few no_pairs (signed_short n small)

scale_within : (name : List ℕ) (usual v : ℤ) → length name ≤ 40 → unsigned_abs v < trillion * trillion → IsWithin 140 3 (scale_markup name usual v)
scale_within name usual v few small =
    either_within 140 3 (words name [] (part_text v)) (unsigned_abs (v -ℤ usual) == 0)
    (words_within 0 40 3 name [] (part_text v) (omega arith) few no_pairs (part_short v small))

no_table_within : (table : Option (List LutPair)) → table ≡ None → IsWithin 0 3 (lut_markup table)
no_table_within None is = none_within 3
no_table_within (Some pairs) is = absurd cc

-- a source with a file's name of few bytes, and with no table
pub record IsShort (s : SourceValue) : Type 0 where
  pub file : length s.file ≤ 40
  pub table : s.lut ≡ None

place_within : (s : SourceValue) → IsSource s → IsShort s → IsWithin 1271 3 (place_markup s)
place_within s is short =
    both_within 371 900 3 (file_markup s.relative s.file) _ (file_within s.relative s.file short.file)
    (both_within 140 760 3 (source_band_markup s.band) _ (band_within s.band is.band)
    (both_within 380 380 3 (rectangle_markup (codes "SrcRect") s.src) (rectangle_markup (codes "DstRect") s.dst)
    (rectangle_within (codes "SrcRect") s.src (omega arith) is.src) (rectangle_within (codes "DstRect") s.dst (omega arith) is.dst)))

scaling_within : (s : SourceValue) → IsSource s → IsShort s → IsWithin 420 3 (scaling_markup s)
scaling_within s is short =
    both_within 140 280 3 (nodata_markup (codes "NODATA") s.nodata) _ (nodata_within 3 (codes "NODATA") s.nodata (omega arith) (omega arith) is.nodata)
    (both_within 140 140 3 (scale_markup (codes "ScaleOffset") (pos 0) s.offset) _ (scale_within (codes "ScaleOffset") (pos 0) s.offset (omega arith) is.offset)
    (both_within 140 0 3 (scale_markup (codes "ScaleRatio") (pos trillion) s.ratio) (lut_markup s.lut) (scale_within (codes "ScaleRatio") (pos trillion) s.ratio (omega arith) is.ratio)
    (no_table_within s.lut short.table)))

source_within : (s : SourceValue) → IsSource s → IsShort s → IsWithin 1891 2 (source_markup s)
source_within s is short =
    group_within 0 1691 2 (source_tag s.complex) [] (both (place_markup s) (scaling_markup s)) (omega arith) (tag_short s.complex) no_pairs
    (both_within 1271 420 3 (place_markup s) (scaling_markup s) (place_within s is short) (scaling_within s is short))

sources_within : (ss : List SourceValue) → All IsSource ss → All IsShort ss → IsWithin (1891 * length ss) 2 (sources_markup ss)
sources_within [] are short = none_within 2
sources_within (s ∷ ss) are short =
    wider (1891 + 1891 * length ss) (1891 * length (s ∷ ss)) 2 (sources_markup (s ∷ ss)) (omega arith)
    (both_within 1891 (1891 * length ss) 2 (source_markup s) (sources_markup ss)
    (source_within s (All-head IsSource s ss are) (All-head IsShort s ss short))
    (sources_within ss (All-tail IsSource s ss are) (All-tail IsShort s ss short)))

-- the first band, of few sources
four_within : (ss : List SourceValue) → length ss ≤ 4 → All IsSource ss → All IsShort ss → IsWithin 7564 2 (sources_markup ss)
four_within ss few are short = wider (1891 * length ss) 7564 2 (sources_markup ss) (omega (arith, few)) (sources_within ss are short)

first_pairs : (kind : PixelType) → AreWithin 140 (band_pairs 1 kind)
first_pairs kind =
    more_pairs 40 70 (codes "dataType") (name_of kind) _ (omega arith) (kind_short kind)
    (more_pairs 40 0 (codes "band") (decimal 1) [] (omega arith) (count_short 1 (omega arith)) no_pairs)

first_within : (b : BandValue) → IfSome b.nodata (λ n. unsigned_abs n < 10 ^ 20) → length b.sources ≤ 4 → All IsSource b.sources → All IsShort b.sources → IsWithin 8044 1 (band_markup 1 b)
first_within b small few are short =
    group_within 140 7704 1 (codes "VRTRasterBand") (band_pairs 1 b.kind) (both (nodata_markup (codes "NoDataValue") b.nodata) (sources_markup b.sources)) (omega arith) (omega arith) (first_pairs b.kind)
    (both_within 140 7564 2 (nodata_markup (codes "NoDataValue") b.nodata) (sources_markup b.sources)
    (nodata_within 2 (codes "NoDataValue") b.nodata (omega arith) (omega arith) small)
    (four_within b.sources few are short))

-- the parts of a document
joined_short : (a b : ℤ) (between : List ℕ) → length (short_text a) ≤ 40 → length (short_text b) ≤ 40 → length (joined_text a between b) ≤ 80 + length between
unfolding joined_text
joined_short a b between first second = omega (arith, first, second, length-append (short_text a) (between ++ short_text b), length-append between (short_text b))

geo_short : (g : Transform) → IsDecimal g → length (geo_text g) ≤ 180
geo_short g is =
    let across = joined_short g.ox g.dx (codes ", ") (short_word g.ox is.ox is.transform.ox_near).short (short_word g.dx is.dx is.transform.dx_near).short in
    let down = joined_short g.oy g.dy (codes ", 0, ") (short_word g.oy is.oy is.transform.oy_near).short (short_word g.dy is.dy is.transform.dy_near).short in
    omega (arith, across, down, length-append (joined_text g.ox (codes ", ") g.dx) (codes ", 0, " ++ joined_text g.oy (codes ", 0, ") g.dy))

geo_within : (geo : Option Transform) → IfSome geo IsDecimal → IsWithin 280 1 (geo_markup geo)
geo_within None is = wider 0 280 1 nothing (omega arith) (none_within 1)
geo_within (Some g) is = words_within 0 180 1 (codes "GeoTransform") [] (geo_text g) (omega arith) (omega arith) no_pairs (geo_short g is)

sizes_short : (s : Size) → s.w ≤ 4194304 → s.h ≤ 4194304 → AreWithin 140 (size_pairs s)
sizes_short s columns lines =
    more_pairs 40 70 (codes "rasterXSize") (decimal s.w) _ (omega arith) (count_short s.w (omega (arith, columns)))
    (more_pairs 40 0 (codes "rasterYSize") (decimal s.h) [] (omega arith) (count_short s.h (omega (arith, lines))) no_pairs)

-- a document of one band
abbrev pub one_band : Size → Option Transform → BandValue → DocumentValue
one_band size geo b = record { size = size; srs = None; geo = geo; bands = b ∷ [] }

parts_within : (size : Size) (geo : Option Transform) (b : BandValue) → IfSome geo IsDecimal → IsWithin 8044 1 (band_markup 1 b) → IsWithin 8324 1 (parts_markup (one_band size geo b))
parts_within size geo b is within =
    both_within 0 8324 1 nothing _ (none_within 1)
    (both_within 280 8044 1 (geo_markup geo) _ (geo_within geo is)
    (both_within 8044 0 1 (band_markup 1 b) nothing within (none_within 1)))

-- a document of one band with at most four short sources is far from the limit of the texts of documents
pub short_document : (size : Size) (geo : Option Transform) (b : BandValue) → IsDocument (one_band size geo b) → IfSome b.nodata (λ n. unsigned_abs n < 10 ^ 20) → length b.sources ≤ 4 → All IsShort b.sources → length (spelled (one_band size geo b)) ≤ 2 ^ 26
unfolding spelled
short_document size geo b is small few short =
    let band : IsBand b = All-head IsBand b [] is.bands in
    let whole = group_within 140 8324 0 (codes "VRTDataset") (size_pairs size) (parts_markup (one_band size geo b)) (omega arith) (omega arith) (sizes_short size is.size.columns is.size.lines)
    (parts_within size geo b is.geo (first_within b small few band.sources short)) in
    let long = whole.long in
    omega (arith, long)
