-- The documents of the mosaics are read as they were written.
use Rattle.std.proofs.Common.{◌≡◌, ◌∙◌, ap, sym, refl, ℕ, pos, ◌*◌, ◌/◌, ◌%◌, ◌^◌, ◌<◌, ◌≤◌, Bool, true, false, cond, true≢false, List, [], ◌∷◌, length, map, Some, Ok, Err, IsUtf8, nat_lt, arith}
use Rattle.std.specs.List.{All, list_all}
use Rattle.std.proofs.lemmas.Bool.Decides.{nat_tests}
use Rattle.std.proofs.lemmas.Int.{ints}
use Rattle.std.proofs.lemmas.List.Elements.{All-nil, All-cons, All-weaker}
use Rattle.std.proofs.lemmas.List.Sums.{AllPass-from_list_all}
use Rattle.std.proofs.lemmas.Str.{IsUtf8-from_ascii}
use Rattle.std.proofs.lemmas.Str.Ascii.{IsAscii-from_all}
use Rattle.geotransform.specs.Geo.{IsRaster}
use Rattle.geotransform.specs.declared.types.PixelType.TheVariants.{Int16}
use Rattle.geotransform.specs.declared.types.Size.{Size}
use Rattle.outside.specs.Names.{folder_part}
use Rattle.vrt_profile.specs.Values.{Rectangle, IsRectangle, SourceValue, IsSource, BandValue, IsBand, DocumentValue, IsDocument, IsDecimal}
use Rattle.vrt_profile.specs.Built.{pixel_rectangle, plain_source}
use Rattle.vrt_profile.specs.Cover.{whole}
use Rattle.vrt_profile.specs.Document.{document_of}
use Rattle.vrt_writing.specs.Spelled.{spelled}
use Rattle.vrt_markup.specs.declared.fault.VrtFault.TheVariants as vrt
use Rattle.catalog.specs.Heads.{document_in, named}
use Rattle.catalog.specs.declared.faults.Bad.TheVariants as bad
use Rattle.catalog.specs.declared.faults.WalkFault.TheVariants.{Malformed}
use Rattle.translate_plan.proofs.Published.{Reads}
use Rattle.synthetic_rasters.specs.Names.{tile_name, inner_name, outer_name}
use Rattle.synthetic_rasters.specs.Outer.{adding, inner_source, outer_sources, outer_place, outer_document}
use Rattle.synthetic_rasters.specs.Tiles.{IsSide, nodata}
use Rattle.synth_runs.proofs.DocumentLengths.{IsShort, one_band, short_document}
use Rattle.synth_runs.proofs.Standing.{tile_source, inner_document}

-- texts of ASCII bytes
is_low : (c : ℕ) → nat_lt c 128 ≡ true → c < 128
is_low c h = grind (arith, nat_tests)

ascii_text : (text : List ℕ) → list_all (λ c. nat_lt c 128) text ≡ true → IsUtf8 text
ascii_text text h = IsUtf8-from_ascii text (IsAscii-from_all text (All-weaker (λ c. nat_lt c 128 ≡ true) (λ c. c < 128) is_low text (AllPass-from_list_all (λ c. nat_lt c 128) text h)))

-- rectangles of whole pixels
pixels_within : (x y w h : ℕ) → x ≤ 8192 → y ≤ 8192 → 0 < w → 0 < h → w ≤ 8192 → h ≤ 8192 → IsRectangle (pixel_rectangle (pos x) (pos y) (pos w) (pos h))
pixels_within x y w h left top some_width some_height width height = record {
  left = omega (arith, left);
  top = omega (arith, top);
  some_width = omega (arith, ints, some_width);
  some_height = omega (arith, ints, some_height);
  width = omega (arith, width);
  height = omega (arith, height);
}

whole_within : (n : ℕ) → 0 < n → n ≤ 8192 → IsRectangle (whole (record { w = n; h = n }))
whole_within n some few = record {
  left = omega arith;
  top = omega arith;
  some_width = omega (arith, ints, some);
  some_height = omega (arith, ints, some);
  width = omega (arith, few);
  height = omega (arith, few);
}

-- sources that show such rectangles of the first band
plain_rules : (relative : Bool) (file : List ℕ) (src dst : Rectangle) → 0 < length file → IsUtf8 file → IsRectangle src → IsRectangle dst → IsSource (plain_source (relative, file) 1 src dst (Some nodata))
plain_rules relative file src dst some text taken shown = record {
  named = some;
  text = text;
  some_band = omega arith;
  band = omega arith;
  src = taken;
  dst = shown;
  nodata = omega arith;
  offset = omega arith;
  ratio = omega arith;
  lut = tt;
  simple = λ e. absurd (true≢false e);
}

adding_rules : (s : SourceValue) → IsSource s → s.complex ≡ true → IsSource (adding 1000 s)
adding_rules s is complex = record {
  named = is.named;
  text = is.text;
  some_band = is.some_band;
  band = is.band;
  src = is.src;
  dst = is.dst;
  nodata = is.nodata;
  offset = omega arith;
  ratio = is.ratio;
  lut = is.lut;
  simple = λ e. absurd (true≢false (sym complex ∙ e));
}

-- the source of the inner mosaic that shows a square of it
inner_rules : (side : ℕ) (dst : Rectangle) → 0 < side → side ≤ 8192 → IsRectangle dst → IsSource (inner_source side dst)
unfolding folder_part
inner_rules side dst some few shown = plain_rules true inner_name _ dst (omega arith) (ascii_text inner_name refl) (pixels_within 0 0 side side (omega arith) (omega arith) some some few few) shown

inner_short : (side : ℕ) (dst : Rectangle) → IsShort (inner_source side dst)
unfolding folder_part
inner_short side dst = record { file = omega arith; table = refl }

-- the source of a tile
tile_rules : (n t x y : ℕ) → IsSide n → x ≤ 4096 → y ≤ 4096 → 0 < length (tile_name t) → IsUtf8 (tile_name t) → IsSource (plain_source (true, tile_name t) 1 (whole (record { w = n; h = n })) (pixel_rectangle (pos x) (pos y) (pos n) (pos n)) (Some nodata))
tile_rules n t x y is left top some text =
    let some_side : 0 < n = let low = is.some in omega (arith, low) in
    let few : n ≤ 8192 = let high = is.few in omega (arith, high) in
    plain_rules true (tile_name t) _ _ some text (whole_within n some_side few) (pixels_within x y n n (omega (arith, left)) (omega (arith, top)) some_side some_side few few)

tile_short : (n t : ℕ) → length (tile_name t) ≤ 40 → (dst : Rectangle) → IsShort (plain_source (true, tile_name t) 1 (whole (record { w = n; h = n })) dst (Some nodata))
tile_short n t few dst = record { file = few; table = refl }

-- the sources of both mosaics
abbrev tile_sources : ℕ → List SourceValue
tile_sources n = map (tile_source n) (0 ∷ 1 ∷ 2 ∷ 3 ∷ [])

abbrev first_source : ℕ → SourceValue
first_source n = inner_source (2 * n) (pixel_rectangle (pos 0) (pos 0) (pos (2 * n)) (pos (2 * n)))

abbrev moved_source : ℕ → SourceValue
moved_source n = inner_source n (pixel_rectangle (pos n) (pos n) (pos n) (pos n))

outer_kept : (n : ℕ) → IsSide n → All IsSource (outer_sources n)
outer_kept n is =
    let some : 0 < n = let low = is.some in omega (arith, low) in
    let few : n ≤ 4096 = is.few in
    All-cons IsSource (first_source n) (adding 1000 (moved_source n) ∷ [])
    (inner_rules (2 * n) _ (omega (arith, some)) (omega (arith, few)) (pixels_within 0 0 (2 * n) (2 * n) (omega arith) (omega arith) (omega (arith, some)) (omega (arith, some)) (omega (arith, few)) (omega (arith, few))))
    (All-cons IsSource (adding 1000 (moved_source n)) []
    (adding_rules (moved_source n) (inner_rules n _ some (omega (arith, few)) (pixels_within n n n n (omega (arith, few)) (omega (arith, few)) some some (omega (arith, few)) (omega (arith, few)))) refl)
    (All-nil IsSource))

outer_short : (n : ℕ) → All IsShort (outer_sources n)
outer_short n =
    let second = inner_short n (pixel_rectangle (pos n) (pos n) (pos n) (pos n)) in
    All-cons IsShort (first_source n) (adding 1000 (moved_source n) ∷ [])
    (inner_short (2 * n) _)
    (All-cons IsShort (adding 1000 (moved_source n)) []
    (record { file = second.file; table = refl })
    (All-nil IsShort))

tiles_kept : (n : ℕ) → IsSide n → All IsSource (tile_sources n)
unfolding folder_part
tiles_kept n is =
    let few : n ≤ 4096 = is.few in
    All-cons IsSource (tile_source n 0) (tile_source n 1 ∷ tile_source n 2 ∷ tile_source n 3 ∷ []) (tile_rules n 0 (0 % 2 * n) (0 / 2 * n) is (omega arith) (omega arith) (omega arith) (ascii_text (tile_name 0) refl))
    (All-cons IsSource (tile_source n 1) (tile_source n 2 ∷ tile_source n 3 ∷ []) (tile_rules n 1 (1 % 2 * n) (1 / 2 * n) is (omega (arith, few)) (omega arith) (omega arith) (ascii_text (tile_name 1) refl))
    (All-cons IsSource (tile_source n 2) (tile_source n 3 ∷ []) (tile_rules n 2 (2 % 2 * n) (2 / 2 * n) is (omega arith) (omega (arith, few)) (omega arith) (ascii_text (tile_name 2) refl))
    (All-cons IsSource (tile_source n 3) [] (tile_rules n 3 (3 % 2 * n) (3 / 2 * n) is (omega (arith, few)) (omega (arith, few)) (omega arith) (ascii_text (tile_name 3) refl))
    (All-nil IsSource))))

tiles_short : (n : ℕ) → All IsShort (tile_sources n)
unfolding folder_part
tiles_short n =
    All-cons IsShort (tile_source n 0) (tile_source n 1 ∷ tile_source n 2 ∷ tile_source n 3 ∷ []) (tile_short n 0 (omega arith) _)
    (All-cons IsShort (tile_source n 1) (tile_source n 2 ∷ tile_source n 3 ∷ []) (tile_short n 1 (omega arith) _)
    (All-cons IsShort (tile_source n 2) (tile_source n 3 ∷ []) (tile_short n 2 (omega arith) _)
    (All-cons IsShort (tile_source n 3) [] (tile_short n 3 (omega arith) _)
    (All-nil IsShort))))

-- the place of both
place_kept : IsDecimal outer_place
place_kept = record {
  transform = record {
    column = λ e. cc;
    line = λ e. cc;
    ox_near = omega arith;
    oy_near = omega arith;
    dx_near = omega arith;
    dy_near = omega arith;
  };
  ox = refl;
  oy = refl;
  dx = refl;
  dy = refl;
}

-- a document of one band with such sources
abbrev square : ℕ → Size
square n = record { w = 2 * n; h = 2 * n }

abbrev shown_band : List SourceValue → BandValue
shown_band sources = record { kind = Int16; nodata = Some nodata; sources = sources }

square_kept : (n : ℕ) → IsSide n → IsRaster (square n)
square_kept n is =
    let some = is.some in
    let few = is.few in
    record { some_columns = omega (arith, some); some_lines = omega (arith, some); columns = omega (arith, few); lines = omega (arith, few) }

document_kept : (n : ℕ) (sources : List SourceValue) → IsSide n → length sources ≤ 4 → All IsSource sources → IsDocument (one_band (square n) (Some outer_place) (shown_band sources))
document_kept n sources is few are = record {
  size = square_kept n is;
  srs = tt;
  geo = place_kept;
  some = omega arith;
  few = omega arith;
  sources = omega (arith, few);
  bands = All-cons IsBand (shown_band sources) [] (record { nodata = refl; sources = are }) (All-nil IsBand);
}

-- a short text of a document is read as the document
read_again : Reads → (base : List ℕ) (d : DocumentValue) → IsDocument d → length (spelled d) ≤ 2 ^ 26 → document_in (spelled d) base ≡ Ok d
read_again reads base d rules short =
    let low : nat_lt (2 ^ 26) (length (spelled d)) ≡ false = grind (arith, nat_tests) in
    ap (λ (long : Bool). cond long (Err (Malformed base (bad.Vrt vrt.Limit))) (named (λ f. Malformed base (bad.Vrt f)) (document_of (spelled d)))) low
    ∙ ap (named (λ f. Malformed base (bad.Vrt f))) (reads d rules)

-- both documents keep the rules of documents, and their texts are within the limit
pub inner_document_kept : (n : ℕ) → IsSide n → IsDocument (inner_document n)
unfolding inner_document
inner_document_kept n is = document_kept n (tile_sources n) is (omega arith) (tiles_kept n is)

pub inner_document_short : (n : ℕ) → IsSide n → length (spelled (inner_document n)) ≤ 2 ^ 26
unfolding inner_document
inner_document_short n is = short_document (square n) (Some outer_place) (shown_band (tile_sources n)) (document_kept n (tile_sources n) is (omega arith) (tiles_kept n is)) (omega arith) (omega arith) (tiles_short n)

pub outer_document_kept : (n : ℕ) → IsSide n → IsDocument (outer_document n)
unfolding outer_document
outer_document_kept n is = document_kept n (outer_sources n) is (omega arith) (outer_kept n is)

pub outer_document_short : (n : ℕ) → IsSide n → length (spelled (outer_document n)) ≤ 2 ^ 26
unfolding outer_document
outer_document_short n is = short_document (square n) (Some outer_place) (shown_band (outer_sources n)) (document_kept n (outer_sources n) is (omega arith) (outer_kept n is)) (omega arith) (omega arith) (outer_short n)

-- so they are read as they were written
pub inner_reads : Reads → (n : ℕ) → IsSide n → document_in (spelled (inner_document n)) inner_name ≡ Ok (inner_document n)
inner_reads reads n is = read_again reads inner_name (inner_document n) (inner_document_kept n is) (inner_document_short n is)

pub outer_reads : Reads → (n : ℕ) → IsSide n → document_in (spelled (outer_document n)) outer_name ≡ Ok (outer_document n)
outer_reads reads n is = read_again reads outer_name (outer_document n) (outer_document_kept n is) (outer_document_short n is)
