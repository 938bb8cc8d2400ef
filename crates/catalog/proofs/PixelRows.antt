-- The pixels of small mosaics, by number and by name.
use Rattle.std.proofs.Common.{◌≡◌, refl, ◌++◌, ◌*◌, ℕ, ℤ, zero, suc, pos, negsuc, ◌&&◌, List, [], ◌∷◌, length, map, codes, Bool, true, false, Option, Some, None, Ok, arith}
use Rattle.std.specs.Prelude.{nat_lt}
use Rattle.std.specs.List.{list_all}
use Rattle.std.specs.FinMap.{get}
use Rattle.std.specs.Str.{IsAscii, is_utf8}
use Rattle.std.specs.Str.Lossy.{utf8_valid_len}
use Rattle.std.proofs.lemmas.Bool.Decides.{nat_tests}
use Rattle.std.proofs.lemmas.Str.{IsUtf8-from_ascii, utf8_valid_len-IsUtf8, is_utf8-from_IsUtf8}
use Rattle.std.proofs.lemmas.Str.Ascii.{IsAscii-nil}
use Rattle.geotransform.specs.Types.{type_named}
use Rattle.geotransform.specs.Decimal.{whole_of, parts_of}
use Rattle.geotransform.specs.declared.types.PixelType.TheVariants.{Int16}
use Rattle.outside.specs.Outside.{Files}
use Rattle.outside.specs.Names.{folder_part, extension_of, extension_of_ending, ending_of, last_part, header_of}
use Rattle.outside.specs.Paths.{normal}
use Rattle.esri_hdr.specs.Head.{Head, esri_head, head_of, shape_of, row_keys_of, geo_of, place_in, step_in, geo_in, nodata_in}
use Rattle.esri_hdr.specs.Lines.{entry_at}
use Rattle.esri_hdr.specs.Values as values
use Rattle.esri_hdr.specs.Values.{side_in, bands_in, bits_in, big_endian_in, layout_in, skip_in, signed_in, row_in, band_row_in, total_row_in, gap_in}
use Rattle.esri_hdr.specs.declared.header_parts.Layout.TheVariants.{Bil}
use Rattle.vrt_markup.specs.Items.{item_at, tag_at, tag_front, close_at, pair_at, value_at}
use Rattle.vrt_profile.specs.Means as means
use Rattle.vrt_markup.specs.Tree.{markup_of, root_at, end_at}
use Rattle.vrt_profile.specs.Document.{document_of}
use Rattle.vrt_profile.specs.Values.{SourceValue, DocumentValue, trillion}
use Rattle.vrt_profile.specs.Cover.{cover_of}
use Rattle.vrt_profile.specs.Value.{source_value}
use Rattle.catalog.specs.declared.driver.Content.TheVariants.{File, Mosaic}
use Rattle.catalog.specs.declared.driver.DriverHead.TheVariants.{Raw}
use Rattle.catalog.specs.Drivers.{Dataset, dataset_of}
use Rattle.catalog.specs.Heads.{dataset_in, dataset_by, raw_in, header_in, vrt_in}
use Rattle.catalog.specs.Pixels.{pixel_of, pixel_of_name}
use Rattle.catalog.specs.Places.{row_by_row}
use Rattle.catalog.specs.Blocks.{block_pixels}

-- by number

-- so many samples in one line
abbrev header : ℕ → Head
header w = record { size = record { w = w; h = 1 }; bands = 1; kind = Int16; big = false; layout = Bil; skip = 0; band_row = w * 2; total_row = w * 2; gap = 0; nodata = None; geo = None }

abbrev file : ℕ → List ℕ → Dataset
file w name = dataset_of name (record { content = File (Raw (header w)); length = w * 2 })

-- the whole of a file or a mosaic
abbrev source : Bool → Option ℤ → List ℕ → SourceValue
source complex nodata name = record { complex = complex; relative = true; file = name; band = 1; src = None; dst = None; nodata = nodata; offset = pos 0; ratio = pos trillion; lut = None }

abbrev document : ℕ → Option ℤ → List SourceValue → DocumentValue
document w nodata sources = record { size = record { w = w; h = 1 }; srs = None; geo = None; bands = record { kind = Int16; nodata = nodata; sources = sources } ∷ [] }

abbrev mosaic : ℕ → List ℕ → Option ℤ → List SourceValue → Dataset
mosaic len name nodata sources = dataset_of name (record { content = Mosaic (document 3 nodata sources); length = len })

-- m.vrt is made of a.bil and b.bil, n.vrt is all of m.vrt, o.vrt is all of n.vrt
abbrev nested : Bool → Option ℤ → List Dataset
nested complex nodata =
    file 3 (codes "a.bil")
    ∷ file 3 (codes "b.bil")
    ∷ mosaic 0 (codes "m.vrt") (Some (negsuc 0)) (source complex nodata (codes "a.bil") ∷ source complex nodata (codes "b.bil") ∷ [])
    ∷ mosaic 0 (codes "n.vrt") None (source false None (codes "m.vrt") ∷ [])
    ∷ mosaic 0 (codes "o.vrt") None (source false None (codes "n.vrt") ∷ [])
    ∷ []

-- the files a.bil and b.bil hold 5, 0, 7 and 0, 0, 9
record Samples (m : Files) : Type 0 where
  a : get m (codes "a.bil") ≡ Some (5 ∷ 0 ∷ 0 ∷ 0 ∷ 7 ∷ 0 ∷ [])
  b : get m (codes "b.bil") ≡ Some (0 ∷ 0 ∷ 0 ∷ 0 ∷ 9 ∷ 0 ∷ [])

-- the three pixels of a dataset
abbrev three : (ℕ → ℤ) → List ℤ
three pixel = map pixel (0 ∷ 1 ∷ 2 ∷ [])

-- NODATA 0 shows the source below, or the band's NODATA
see_through : (m : Files) → Samples m → three (λ x. pixel_of m (nested true (Some (pos 0))) 2 0 x 0) ≡ pos 5 ∷ negsuc 0 ∷ pos 9 ∷ []
unfolding pixel_of normal folder_part cover_of source_value
see_through m h = rw h.a (rw h.b refl)

-- a SimpleSource hides all others
hidden : (m : Files) → Samples m → three (λ x. pixel_of m (nested false None) 2 0 x 0) ≡ pos 0 ∷ pos 0 ∷ pos 9 ∷ []
unfolding pixel_of normal folder_part cover_of source_value
hidden m h = rw h.b refl

-- the same through two mosaics more
through_all : (m : Files) → Samples m → three (λ x. pixel_of m (nested true (Some (pos 0))) 4 0 x 0) ≡ pos 5 ∷ negsuc 0 ∷ pos 9 ∷ []
unfolding pixel_of normal folder_part cover_of source_value
through_all m h = rw h.a (rw h.b refl)

-- the block of all three
block : (m : Files) → Samples m → block_pixels m (nested true (Some (pos 0))) 4 0 0 ≡ pos 5 ∷ negsuc 0 ∷ pos 9 ∷ []
unfolding pixel_of normal folder_part cover_of source_value row_by_row
block m h = rw h.a (rw h.b refl)

-- one band of one source
abbrev over : ℕ → SourceValue → List Dataset
over w s = file w (codes "c.bil") ∷ dataset_of (codes "c.vrt") (record { content = Mosaic (document w None (s ∷ [])); length = 0 }) ∷ []

-- a table from 0 and 10 to 0 and 100, for -1, 3, 10 and 11
tabled : (m : Files) → get m (codes "c.bil") ≡ Some (255 ∷ 255 ∷ 3 ∷ 0 ∷ 10 ∷ 0 ∷ 11 ∷ 0 ∷ [])
    → map (λ x. pixel_of m (over 4 (record (source true None (codes "c.bil")) { lut = Some (record { input = pos 0; output = pos 0 } ∷ record { input = pos 10000000; output = pos 100000000 } ∷ []) })) 1 0 x 0) (0 ∷ 1 ∷ 2 ∷ 3 ∷ []) ≡ pos 0 ∷ pos 30 ∷ pos 100 ∷ pos 100 ∷ []
unfolding pixel_of normal folder_part cover_of source_value
tabled m is = rw is refl

-- half of 3 and of -3
halved : (m : Files) → get m (codes "c.bil") ≡ Some (3 ∷ 0 ∷ 253 ∷ 255 ∷ []) → map (λ x. pixel_of m (over 2 (record (source true None (codes "c.bil")) { ratio = pos 500000000000 })) 1 0 x 0) (0 ∷ 1 ∷ []) ≡ pos 2 ∷ negsuc 1 ∷ []
unfolding pixel_of normal folder_part cover_of source_value
halved m is = rw is refl

-- by name

-- a text in ASCII

first_true : (a b : Bool) → (a && b) ≡ true → a ≡ true
first_true true b h = refl
first_true false b h = cc

second_true : (a b : Bool) → (a && b) ≡ true → b ≡ true
second_true true b h = h
second_true false b h = cc

is_ascii : (text : List ℕ) → list_all (λ c. nat_lt c 128) text ≡ true → IsAscii text
is_ascii [] h i = IsAscii-nil i
is_ascii (c ∷ cs) h zero = let t = first_true (nat_lt c 128) (list_all (λ c. nat_lt c 128) cs) h in grind (arith, nat_tests)
is_ascii (c ∷ cs) h (suc i) = is_ascii cs (second_true (nat_lt c 128) (list_all (λ c. nat_lt c 128) cs) h) i

is_text : (text : List ℕ) → list_all (λ c. nat_lt c 128) text ≡ true → is_utf8 text ≡ true
is_text text h = is_utf8-from_IsUtf8 text (IsUtf8-from_ascii text (is_ascii text h))

all_text : (text : List ℕ) → list_all (λ c. nat_lt c 128) text ≡ true → utf8_valid_len text ≡ length text
all_text text h = utf8_valid_len-IsUtf8 text (IsUtf8-from_ascii text (is_ascii text h))

-- a header, and documents

abbrev header_text : List ℕ
header_text = codes "NROWS 1" ++ 10 ∷ codes "NCOLS 3" ++ 10 ∷ codes "NBITS 16" ++ 10 ∷ codes "PIXELTYPE SIGNEDINT"

header_read : esri_head header_text ≡ Ok (header 3)
unfolding esri_head head_of shape_of row_keys_of geo_of place_in step_in geo_in nodata_in entry_at side_in bands_in bits_in big_endian_in layout_in skip_in signed_in values.type_of_bits row_in band_row_in total_row_in gap_in
header_read = refl

abbrev text_of : List ℕ → List ℕ
text_of inside = codes "<VRTDataset rasterXSize='3' rasterYSize='1'><VRTRasterBand dataType='Int16'>" ++ inside ++ codes "</VRTRasterBand></VRTDataset>"

abbrev simple_text : List ℕ → List ℕ
simple_text name = text_of (codes "<SimpleSource><SourceFilename relativeToVRT='1'>" ++ name ++ codes "</SourceFilename></SimpleSource>")

abbrev complex_source : List ℕ → List ℕ
complex_source name = codes "<ComplexSource><SourceFilename relativeToVRT='1'>" ++ name ++ codes "</SourceFilename><NODATA>0</NODATA></ComplexSource>"

abbrev complex_text : List ℕ
complex_text = text_of (codes "<NoDataValue>-1</NoDataValue>" ++ complex_source (codes "a.bil") ++ complex_source (codes "b.bil"))

m_read : document_of complex_text ≡ Ok (document 3 (Some (negsuc 0)) (source true (Some (pos 0)) (codes "a.bil") ∷ source true (Some (pos 0)) (codes "b.bil") ∷ []))
unfolding item_at tag_at tag_front close_at pair_at value_at markup_of root_at end_at means.dataset_of type_named whole_of parts_of
m_read = rw (all_text complex_text refl) (rw (is_text (codes "a.bil") refl) (rw (is_text (codes "b.bil") refl) refl))

n_read : document_of (simple_text (codes "m.vrt")) ≡ Ok (document 3 None (source false None (codes "m.vrt") ∷ []))
unfolding item_at tag_at tag_front close_at pair_at value_at markup_of root_at end_at means.dataset_of type_named
n_read = rw (all_text (simple_text (codes "m.vrt")) refl) (rw (is_text (codes "m.vrt") refl) refl)

o_read : document_of (simple_text (codes "n.vrt")) ≡ Ok (document 3 None (source false None (codes "n.vrt") ∷ []))
unfolding item_at tag_at tag_front close_at pair_at value_at markup_of root_at end_at means.dataset_of type_named
o_read = rw (all_text (simple_text (codes "n.vrt")) refl) (rw (is_text (codes "n.vrt") refl) refl)

-- a folder of these files
record Holds (m : Files) : Type 0 where
  samples : Samples m
  a : get m (codes "a.hdr") ≡ Some header_text
  b : get m (codes "b.hdr") ≡ Some header_text
  first : get m (codes "m.vrt") ≡ Some complex_text
  second : get m (codes "n.vrt") ≡ Some (simple_text (codes "m.vrt"))
  third : get m (codes "o.vrt") ≡ Some (simple_text (codes "n.vrt"))

a_found : (m : Files) → Holds m → dataset_in m false (codes "a.bil") ≡ Ok (file 3 (codes "a.bil"))
unfolding dataset_in dataset_by raw_in header_in extension_of extension_of_ending ending_of last_part header_of
a_found m h = rw h.samples.a (rw h.a (rw header_read refl))

b_found : (m : Files) → Holds m → dataset_in m false (codes "b.bil") ≡ Ok (file 3 (codes "b.bil"))
unfolding dataset_in dataset_by raw_in header_in extension_of extension_of_ending ending_of last_part header_of
b_found m h = rw h.samples.b (rw h.b (rw header_read refl))

m_found : (m : Files) → Holds m → dataset_in m false (codes "m.vrt") ≡ Ok (mosaic (length complex_text) (codes "m.vrt") (Some (negsuc 0)) (source true (Some (pos 0)) (codes "a.bil") ∷ source true (Some (pos 0)) (codes "b.bil") ∷ []))
unfolding dataset_in dataset_by vrt_in extension_of extension_of_ending ending_of last_part
m_found m h = rw h.first (rw m_read refl)

n_found : (m : Files) → Holds m → dataset_in m false (codes "n.vrt") ≡ Ok (mosaic (length (simple_text (codes "m.vrt"))) (codes "n.vrt") None (source false None (codes "m.vrt") ∷ []))
unfolding dataset_in dataset_by vrt_in extension_of extension_of_ending ending_of last_part
n_found m h = rw h.second (rw n_read refl)

o_found : (m : Files) → Holds m → dataset_in m false (codes "o.vrt") ≡ Ok (mosaic (length (simple_text (codes "n.vrt"))) (codes "o.vrt") None (source false None (codes "n.vrt") ∷ []))
unfolding dataset_in dataset_by vrt_in extension_of extension_of_ending ending_of last_part
o_found m h = rw h.third (rw o_read refl)

-- the bytes of the files alone tell the pixels through three mosaics
named : (m : Files) → Holds m → three (λ x. pixel_of_name m (codes "o.vrt") 0 x 0) ≡ pos 5 ∷ negsuc 0 ∷ pos 9 ∷ []
unfolding pixel_of_name normal folder_part cover_of source_value
named m h = rw (o_found m h) (rw (n_found m h) (rw (m_found m h) (rw (a_found m h) (rw (b_found m h) (rw h.samples.a (rw h.samples.b refl))))))
