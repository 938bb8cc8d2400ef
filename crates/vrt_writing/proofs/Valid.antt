-- A document that is written is UTF-8: its markup is ASCII, and its texts are UTF-8.
use Rattle.std.proofs.Common.{◌≡◌, ℕ, ℤ, zero, suc, ◌+◌, ◌*◌, ◌^◌, ◌<◌, ◌≤◌, Bool, true, false, cond, ◌&&◌, ◌==◌, List, [], ◌∷◌, ◌++◌, length, take, drop, replicate, flat_map, Option, Some, None, refl, sym, ap, subst, ◌∙◌, arith, IfSome, IsUtf8, nat_lt, codes, unsigned_abs, pos}
use Rattle.std.specs.Prelude.{◌-ℤ◌}
use Rattle.std.specs.List.{All, list_all, prefix_len}
use Rattle.std.specs.Fmt.{decimal, signed_decimal}
use Rattle.std.proofs.lemmas.List.{length-drop}
use Rattle.std.proofs.lemmas.Str.{IsUtf8-drop, IsUtf8-take, IsUtf8-nil, IsUtf8-append}
use Rattle.std.proofs.lemmas.Bool.Decides.{nat_tests}
use Rattle.geotransform.specs.Geo.{Transform}
use Rattle.geotransform.specs.Types.{is_in, name_of}
use Rattle.geotransform.specs.declared.types.PixelType.{PixelType}
use Rattle.geotransform.specs.declared.types.PixelType.TheVariants.{Byte, Int8, UInt16, Int16, UInt32, Int32, UInt64, Int64}
use Rattle.vrt_markup.specs.Items.{Pair}
use Rattle.vrt_profile.specs.Values.{trillion, IsOffset, Rectangle, IsRectangle, IsLut, SourceValue, IsSource, BandValue, IsBand, DocumentValue, IsDocument, IsDecimal}
use Rattle.vrt_writing.specs.Spelled.{Markup, nothing, both, words, empty, group, markup_text, indent, tag_text, pair_text, end_text, escape, escaped, micro_text, part_text, lut_text, geo_text, flag_text, file_markup, source_band_markup, rectangle_markup, nodata_markup, lut_markup, source_tag, source_markup, sources_markup, band_markup, bands_markup, srs_markup, geo_markup, dataset_markup, spelled}
use Rattle.vrt_profile.specs.declared.rectangle.LutPair.{LutPair}
use Rattle.vrt_writing.proofs.Bands.{all_head, all_tail, in_range}
use Rattle.vrt_writing.proofs.Relisted.{lut_marks, geo_marks}
use Rattle.vrt_writing.proofs.Figures.{is_mark, AreFigures, AreMarks, and_parts, figures_marks, decimal_figures, signed_figures, micro_figures, part_figures}
use Rattle.vrt_writing.proofs.Reread.{escape_plain, five}
use Rattle.vrt_writing.proofs.Bytes.{tail_utf8, cons_utf8, is_high, high_boundary}

-- texts of ASCII bytes
abbrev pub is_ascii : ℕ → Bool
is_ascii c = nat_lt c 128

abbrev pub AreAscii : List ℕ → Type 0
AreAscii t = list_all is_ascii t ≡ true

pub ascii_utf8 : (t : List ℕ) → AreAscii t → IsUtf8 t
ascii_utf8 [] h = IsUtf8-nil
ascii_utf8 (c ∷ cs) h =
    let p = and_parts (is_ascii c) (list_all is_ascii cs) h in
    cons_utf8 c cs (grind (arith, nat_tests, p.0)) (ascii_utf8 cs p.1)

mark_ascii : (c : ℕ) → is_mark c ≡ true → is_ascii c ≡ true
mark_ascii c h = grind (arith, nat_tests)

pub marks_ascii : (t : List ℕ) → AreMarks t → AreAscii t
marks_ascii [] h = refl
marks_ascii (c ∷ cs) h =
    let p = and_parts (is_mark c) (list_all is_mark cs) h in
    ap (λ b. b && list_all is_ascii cs) (mark_ascii c p.0) ∙ marks_ascii cs p.1

-- such bytes are written as they are
high_escape : (c : ℕ) → is_high c ≡ true → escape c ≡ c ∷ []
high_escape c h = escape_plain c (λ e. grind (arith, nat_tests, e)) (λ e. grind (arith, nat_tests, e)) (λ e. grind (arith, nat_tests, e)) (λ e. grind (arith, nat_tests, e)) (λ e. grind (arith, nat_tests, e))

high_case : (c : ℕ) (cs : List ℕ) (b : Bool) → is_high c ≡ b → escaped cs ≡ take (prefix_len is_high cs) cs ++ escaped (drop (prefix_len is_high cs) cs) → escaped (c ∷ cs) ≡ take (cond b (1 + prefix_len is_high cs) 0) (c ∷ cs) ++ escaped (drop (cond b (1 + prefix_len is_high cs) 0) (c ∷ cs))
high_case c cs true e ih =
    let one : suc (prefix_len is_high cs) ≡ 1 + prefix_len is_high cs = omega arith in
    ap (λ (x : List ℕ). x ++ escaped cs) (high_escape c e)
    ∙ ap (λ (x : List ℕ). c ∷ x) ih
    ∙ ap (λ n. take n (c ∷ cs) ++ escaped (drop n (c ∷ cs))) one
high_case c cs false e ih = refl

high_stays : (t : List ℕ) → escaped t ≡ take (prefix_len is_high t) t ++ escaped (drop (prefix_len is_high t) t)
high_stays [] = refl
high_stays (c ∷ cs) = high_case c cs (is_high c) refl (high_stays cs)

escape_ascii : (c : ℕ) → c < 128 → AreAscii (escape c)
escape_ascii c less = five (λ x. x < 128 → AreAscii (escape x)) (λ l. refl) (λ l. refl) (λ l. refl) (λ l. refl) (λ l. refl)
    (λ x a b d e f l. let low : is_ascii x ≡ true = grind (arith, nat_tests) in ap (list_all is_ascii) (escape_plain x a b d e f) ∙ ap (λ k. k && true) low) c less

-- all that is shorter is written as UTF-8
abbrev Escapes : ℕ → Type 0
Escapes n = (t : List ℕ) → length t ≤ n → IsUtf8 t → IsUtf8 (escaped t)

escaped_case : (n c : ℕ) (cs : List ℕ) (b : Bool) → is_high c ≡ b → Escapes n → length cs ≤ n → IsUtf8 (c ∷ cs) → IsUtf8 (escaped (c ∷ cs))
escaped_case n c cs true e ih le h =
    let m = prefix_len is_high (c ∷ cs) in
    let some : 1 + prefix_len is_high cs ≡ prefix_len is_high (c ∷ cs) = ap (λ b. cond b (1 + prefix_len is_high cs) 0) (sym e) in
    let at = high_boundary (c ∷ cs) in
    subst IsUtf8 (sym (high_stays (c ∷ cs))) (IsUtf8-append (take m (c ∷ cs)) _ (IsUtf8-take (c ∷ cs) m h at) (ih (drop m (c ∷ cs)) (omega (arith, le, some, length-drop (prefix_len is_high (c ∷ cs)) (c ∷ cs))) (IsUtf8-drop (c ∷ cs) m h at)))
escaped_case n c cs false e ih le h =
    let less : c < 128 = grind (arith, nat_tests, e) in
    IsUtf8-append (escape c) (escaped cs) (ascii_utf8 (escape c) (escape_ascii c less)) (ih cs le (tail_utf8 c cs h less))

escaped_by : (n : ℕ) → Escapes n
escaped_by n [] le h = IsUtf8-nil
escaped_by zero (c ∷ cs) le h = absurd (omega (arith, le))
escaped_by (suc n) (c ∷ cs) le h = escaped_case n c cs (is_high c) refl (escaped_by n) (omega (arith, le)) h

pub escaped_utf8 : (t : List ℕ) → IsUtf8 t → IsUtf8 (escaped t)
escaped_utf8 t h = escaped_by (length t) t (omega arith) h

-- markup whose names and attributes are ASCII, and whose texts are UTF-8
abbrev pub AreAsciiPairs : List Pair → Type 0
AreAsciiPairs [] = Unit {0}
AreAsciiPairs (p ∷ ps) = (AreAscii p.name × AreAscii p.value) × AreAsciiPairs ps

abbrev pub IsValid : Markup → Type 0
IsValid nothing = Unit {0}
IsValid (both a b) = IsValid a × IsValid b
IsValid (words name pairs text) = AreAscii name × AreAsciiPairs pairs × IsUtf8 text
IsValid (empty name pairs) = AreAscii name × AreAsciiPairs pairs
IsValid (group name pairs inside) = AreAscii name × AreAsciiPairs pairs × IsValid inside

pub join : (a b : List ℕ) → IsUtf8 a → IsUtf8 b → IsUtf8 (a ++ b)
join a b h k = IsUtf8-append a b h k

spaces_utf8 : (k : ℕ) → IsUtf8 (replicate k 32)
spaces_utf8 zero = IsUtf8-nil
spaces_utf8 (suc k) = cons_utf8 32 (replicate k 32) (omega arith) (spaces_utf8 k)

pairs_utf8 : (ps : List Pair) → AreAsciiPairs ps → IsUtf8 (flat_map pair_text ps)
pairs_utf8 [] h = IsUtf8-nil
pairs_utf8 (p ∷ ps) h =
    join (pair_text p) (flat_map pair_text ps)
    (cons_utf8 32 _ (omega arith) (join p.name _ (ascii_utf8 p.name h.0.0) (join (codes "=\"") _ (ascii_utf8 (codes "=\"") refl) (join p.value (34 ∷ []) (ascii_utf8 p.value h.0.1) (ascii_utf8 (34 ∷ []) refl)))))
    (pairs_utf8 ps h.1)

tag_utf8 : (level : ℕ) (name : List ℕ) (ps : List Pair) → AreAscii name → AreAsciiPairs ps → IsUtf8 (tag_text level name ps)
tag_utf8 level name ps h k = join (indent level) _ (spaces_utf8 (2 * level)) (cons_utf8 60 _ (omega arith) (join name _ (ascii_utf8 name h) (pairs_utf8 ps k)))

end_utf8 : (name : List ℕ) → AreAscii name → IsUtf8 (end_text name)
end_utf8 name h = join (codes "</") _ (ascii_utf8 (codes "</") refl) (join name (codes ">\n") (ascii_utf8 name h) (ascii_utf8 (codes ">\n") refl))

pub written_utf8 : (m : Markup) (level : ℕ) → IsValid m → IsUtf8 (markup_text level m)
written_utf8 nothing level h = IsUtf8-nil
written_utf8 (both a b) level h = join (markup_text level a) (markup_text level b) (written_utf8 a level h.0) (written_utf8 b level h.1)
written_utf8 (words name ps t) level h = join (tag_text level name ps) _ (tag_utf8 level name ps h.0 h.1) (cons_utf8 62 _ (omega arith) (join t (end_text name) h.2 (end_utf8 name h.0)))
written_utf8 (empty name ps) level h = join (tag_text level name ps) (codes "/>\n") (tag_utf8 level name ps h.0 h.1) (ascii_utf8 (codes "/>\n") refl)
written_utf8 (group name ps m) level h =
    join (tag_text level name ps) _ (tag_utf8 level name ps h.0 h.1)
    (join (codes ">\n") _ (ascii_utf8 (codes ">\n") refl)
    (join (markup_text (suc level) m) _ (written_utf8 m (suc level) h.2)
    (join (indent level) (end_text name) (spaces_utf8 (2 * level)) (end_utf8 name h.0))))

-- each part of a document
figures_ascii : (t : List ℕ) → AreFigures t → AreAscii t
figures_ascii t h = marks_ascii t (figures_marks t h)

figures_utf8 : (t : List ℕ) → AreFigures t → IsUtf8 t
figures_utf8 t h = ascii_utf8 t (figures_ascii t h)

flag_ascii : (b : Bool) → AreAscii (flag_text b)
flag_ascii true = refl
flag_ascii false = refl

file_valid : (relative : Bool) (file : List ℕ) → IsUtf8 file → IsValid (file_markup relative file)
file_valid relative file u = (refl, ((refl, flag_ascii relative), tt), escaped_utf8 file u)

count_valid : (n : ℕ) → n ≤ 256 → IsValid (source_band_markup n)
count_valid n few = (refl, tt, figures_utf8 (decimal n) (decimal_figures n (omega arith)))

rectangle_valid : (name : List ℕ) (o : Option Rectangle) → AreAscii name → IfSome o IsRectangle → IsValid (rectangle_markup name o)
rectangle_valid name None h is = tt
rectangle_valid name (Some r) h is =
    let side : (v : ℤ) → IsOffset v → AreAscii (micro_text v) = λ v small. figures_ascii (micro_text v) (micro_figures v (omega (arith, small))) in
    (h, ((refl, side r.x is.left), ((refl, side r.y is.top), ((refl, side r.w is.width), ((refl, side r.h is.height), tt)))))

number_valid : (name : List ℕ) (n : ℤ) → AreAscii name → unsigned_abs n < 10 ^ 20 → IsValid (words name [] (signed_decimal n))
number_valid name n h small = (h, tt, figures_utf8 (signed_decimal n) (signed_figures n (omega (arith, small))))

nodata_valid : (name : List ℕ) (o : Option ℤ) → AreAscii name → IfSome o (λ n. unsigned_abs n < 10 ^ 20) → IsValid (nodata_markup name o)
nodata_valid name None h is = tt
nodata_valid name (Some n) h is = number_valid name n h is

scale_valid : (name : List ℕ) (v : ℤ) (b : Bool) → AreAscii name → unsigned_abs v < trillion * trillion → IsValid (cond b nothing (words name [] (part_text v)))
scale_valid name v true h small = tt
scale_valid name v false h small = (h, tt, figures_utf8 (part_text v) (part_figures v (omega arith)))

lut_valid : (o : Option (List LutPair)) → IfSome o IsLut → IsValid (lut_markup o)
lut_valid None is = tt
lut_valid (Some pairs) is = (refl, tt, ascii_utf8 (lut_text pairs) (marks_ascii (lut_text pairs) (lut_marks pairs is.near)))

name_ascii : (b : Bool) → AreAscii (source_tag b)
name_ascii true = refl
name_ascii false = refl

source_valid : (v : SourceValue) → IsSource v → IsValid (source_markup v)
source_valid v is = (
  name_ascii v.complex,
  tt,
  (
    (file_valid v.relative v.file is.text, (count_valid v.band is.band, (rectangle_valid (codes "SrcRect") v.src refl is.src, rectangle_valid (codes "DstRect") v.dst refl is.dst))),
    (
      nodata_valid (codes "NODATA") v.nodata refl is.nodata,
      (
        scale_valid (codes "ScaleOffset") v.offset (unsigned_abs (v.offset -ℤ pos 0) == 0) refl is.offset,
        (
          scale_valid (codes "ScaleRatio") v.ratio (unsigned_abs (v.ratio -ℤ pos trillion) == 0) refl is.ratio,
          lut_valid v.lut is.lut,
        ),
      ),
    ),
  ),
)

sources_valid : (ss : List SourceValue) → All IsSource ss → IsValid (sources_markup ss)
sources_valid [] is = tt
sources_valid (s ∷ ss) is = (source_valid s (all_head IsSource s ss is), sources_valid ss (all_tail IsSource s ss is))

kind_ascii : (kind : PixelType) → AreAscii (name_of kind)
kind_ascii Byte = refl
kind_ascii Int8 = refl
kind_ascii UInt16 = refl
kind_ascii Int16 = refl
kind_ascii UInt32 = refl
kind_ascii Int32 = refl
kind_ascii UInt64 = refl
kind_ascii Int64 = refl

value_valid : (kind : PixelType) (o : Option ℤ) → IfSome o (λ n. is_in kind n ≡ true) → IsValid (nodata_markup (codes "NoDataValue") o)
value_valid kind None is = tt
value_valid kind (Some n) is = number_valid (codes "NoDataValue") n refl (in_range kind n is)

band_valid : (n : ℕ) (b : BandValue) → n ≤ 256 → IsBand b → IsValid (band_markup n b)
band_valid n b few is = (refl, ((refl, kind_ascii b.kind), ((refl, figures_ascii (decimal n) (decimal_figures n (omega arith))), tt)), (value_valid b.kind b.nodata is.nodata, sources_valid b.sources is.sources))

bands_valid : (n : ℕ) (bs : List BandValue) → n + length bs ≤ 257 → All IsBand bs → IsValid (bands_markup n bs)
bands_valid n [] few is = tt
bands_valid n (b ∷ bs) few is = (band_valid n b (omega arith) (all_head IsBand b bs is), bands_valid (suc n) bs (omega arith) (all_tail IsBand b bs is))

srs_valid : (o : Option (List ℕ)) → IfSome o IsUtf8 → IsValid (srs_markup o)
srs_valid None is = tt
srs_valid (Some t) is = (refl, tt, escaped_utf8 t is)

geo_valid : (o : Option Transform) → IfSome o IsDecimal → IsValid (geo_markup o)
geo_valid None is = tt
geo_valid (Some g) is = (refl, tt, ascii_utf8 (geo_text g) (marks_ascii (geo_text g) (geo_marks g is)))

side_ascii : (n : ℕ) → n ≤ 4194304 → AreAscii (decimal n)
side_ascii n few = figures_ascii (decimal n) (decimal_figures n (omega arith))

document_valid : (d : DocumentValue) → IsDocument d → IsValid (dataset_markup d)
document_valid d is = (refl, ((refl, side_ascii d.size.w is.size.columns), ((refl, side_ascii d.size.h is.size.lines), tt)), (srs_valid d.srs is.srs, (geo_valid d.geo is.geo, bands_valid 1 d.bands (omega (arith, is.few)) is.bands)))

pub spelled_utf8 : (d : DocumentValue) → IsDocument d → IsUtf8 (spelled d)
unfolding spelled
spelled_utf8 d is = written_utf8 (dataset_markup d) 0 (document_valid d is)
