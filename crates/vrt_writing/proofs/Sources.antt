-- A source that is written is read again, part by part.
use Rattle.std.proofs.Common.{◌≡◌, ℕ, ℤ, ◌*◌, ◌^◌, ◌<◌, ◌≤◌, Bool, true, false, cond, ◌&&◌, ◌==◌, List, [], ◌∷◌, length, Option, Some, None, Result, Ok, Err, refl, sym, ap, ◌∙◌, arith, subst, unsigned_abs, pos, IfSome, IsUtf8, nat_lt, nat_le, codes}
use Rattle.std.specs.Prelude.{◌-ℤ◌, int_lt, ◌<ℤ◌, ok_or}
use Rattle.std.specs.Option.{unwrap_or}
use Rattle.std.specs.Fmt.{decimal, signed_decimal}
use Rattle.std.proofs.lemmas.Bool.Decides.{nat_tests}
use Rattle.std.proofs.lemmas.Int.{ints}
use Rattle.lists_and_answers.specs.Answers.{◌>>=◌}
use Rattle.geotransform.specs.Decimal.{places_of, whole_of}
use Rattle.vrt_markup.specs.Items.{Pair, attribute}
use Rattle.vrt_markup.specs.Forest.{Forest, stop, text_of, child_of}
use Rattle.vrt_markup.specs.Fronts.{stepped}
use Rattle.vrt_profile.specs.Numbers.{within_limit, some_size, offset_in, size_in, band_number_by, band_number, no_band_fault, scale_by}
use Rattle.vrt_profile.specs.Values.{million, trillion, Rectangle, IsOffset, IsRectangle, IsLut, SourceValue, IsSource, IsSimple}
use Rattle.vrt_writing.specs.Spelled.{Markup, nothing, both, words, pair, flag_text, micro_text, part_text, lut_text, file_markup, source_band_markup, rectangle_pairs, rectangle_markup, nodata_markup, scale_markup, lut_markup, place_markup, scaling_markup}
use Rattle.vrt_profile.specs.Means.{File, SourceParts, no_parts, source_step, flag_in, childless, rect_of, with_file, with_band, with_src, with_dst, with_nodata, with_offset, with_ratio, with_lut, source_band_by, nodata_by, scale_text, lut_by, value_in, source_from, source_named, source_end}
use Rattle.vrt_profile.specs.Seen.{file_when, file_by, rect_by}
use Rattle.vrt_profile.specs.declared.rectangle.LutPair.{LutPair}
use Rattle.vrt_markup.specs.declared.fault.VrtFault.{VrtFault}
use Rattle.vrt_markup.specs.declared.fault.VrtFault.TheVariants.{MissingPart, BadNumber, Limit}
use Rattle.vrt_profile.proofs.KeptTexts.{is_text}
use Rattle.geotransform.proofs.RoundTrip.{whole_again_wide}
use Rattle.vrt_writing.proofs.Places.{micro_again, part_again, count_again}
use Rattle.vrt_writing.proofs.Figures.{AreFigures, AreMarks, micro_figures, part_figures, decimal_figures, signed_figures, figures_marks, escaped_same, figures_value, trim_same}
use Rattle.vrt_writing.proofs.Relisted.{lut_again, lut_marks}
use Rattle.vrt_writing.proofs.Openings.{IsOpening, tag_of}
use Rattle.vrt_writing.proofs.Taken.{ElementStep, Takes, takes_nothing, takes_both, takes_words, takes_empty}

pub takes_to : {S : Type 0} (step : ElementStep S) (level : ℕ) (m : Markup) (kept now then : Result S VrtFault) → Takes step level m kept now → now ≡ then → Takes step level m kept then
takes_to step level m kept now then p e = subst (Takes step level m kept) e p

-- an element whose text needs no entities
pub takes_marks : {S : Type 0} (step : ElementStep S) (level : ℕ) (name : List ℕ) (ps : List Pair) (t : List ℕ) (kept : Result S VrtFault) (k : List ℕ × Option ℕ → Result S VrtFault) → level < 64 → IsOpening name ps → AreMarks t → ((place : ℕ) (f : Forest) → k (text_of f, child_of f) ≡ stepped step kept place (tag_of name ps false) f) → Takes step level (words name ps t) kept (k (t, None))
takes_marks step level name ps t kept k less is marks same = subst (λ (x : List ℕ). Takes step level (words name ps x) kept (k (t, None))) (escaped_same t marks) (takes_words step level name ps t kept k less is same)

-- what an element's text means, judged first, then a child of it
abbrev pub judged : {A : Type 0} → Result A VrtFault → Option ℕ → Result A VrtFault
judged value child = value >>= childless child

-- what is read of a source so far
abbrev pub parts : Option File → Option ℕ → Option Rectangle → Option Rectangle → Option (Option ℤ) → Option ℤ → Option ℤ → Option (List LutPair) → SourceParts
parts file band src dst nodata offset ratio lut = record { file = file; band = band; src = src; dst = dst; nodata = nodata; offset = offset; ratio = ratio; lut = lut }

-- the file's name
abbrev flag_pairs : Bool → List Pair
flag_pairs relative = pair (codes "relativeToVRT") (flag_text relative) ∷ []

file_opening : (relative : Bool) → IsOpening (codes "SourceFilename") (flag_pairs relative)
file_opening true = record { named = record { first = refl; later = refl }; pairs = ((record { first = refl; later = refl }, record { plain = λ r. refl }), tt); distinct = refl }
file_opening false = record { named = record { first = refl; later = refl }; pairs = ((record { first = refl; later = refl }, record { plain = λ r. refl }), tt); distinct = refl }

flag_again : (relative : Bool) → flag_in (attribute (codes "relativeToVRT") (flag_pairs relative)) ≡ Ok relative
flag_again true = refl
flag_again false = refl

abbrev file_of : Bool → List ℕ → File
file_of relative file = record { relative = relative; name = file }

file_is : (relative : Bool) (file : List ℕ) → IsUtf8 file → with_file no_parts (file_by (flag_in (attribute (codes "relativeToVRT") (flag_pairs relative))) file None) ≡ Ok (parts (Some (file_of relative file)) None None None None None None None)
file_is relative file u =
    ap (λ f. with_file no_parts (file_by f file None)) (flag_again relative)
    ∙ ap (λ t. with_file no_parts (file_when (Ok relative) (judged t None))) (is_text file u)

takes_file : (complex relative : Bool) (file : List ℕ) → IsUtf8 file → Takes (source_step complex) 3 (file_markup relative file) (Ok no_parts) (Ok (parts (Some (file_of relative file)) None None None None None None None))
takes_file complex relative file u =
    takes_to (source_step complex) 3 (file_markup relative file) (Ok no_parts) _ _
    (takes_words (source_step complex) 3 (codes "SourceFilename") (flag_pairs relative) file (Ok no_parts) (λ w. with_file no_parts (file_by (flag_in (attribute (codes "relativeToVRT") (flag_pairs relative))) w.0 w.1)) (omega arith) (file_opening relative) (λ place f. refl))
    (file_is relative file u)

-- its band
band_is : (n : ℕ) → 0 < n → n ≤ 256 → source_band_by (decimal n) None ≡ Ok n
band_is n some few =
    let d : AreFigures (decimal n) = decimal_figures n (omega arith) in
    let low : nat_lt 0 n ≡ true = grind (arith, nat_tests) in
    let high : nat_le n 256 ≡ true = grind (arith, nat_tests) in
    ap (λ (t : List ℕ). judged (band_number t) None) (trim_same (decimal n) d)
    ∙ ap (λ o. judged (band_number_by (decimal n) o) None) (count_again n (omega arith))
    ∙ ap (λ b. judged (cond (b && nat_le n 256) (Ok n) (Err (no_band_fault (decimal n)))) None) low
    ∙ ap (λ b. judged (cond b (Ok n) (Err (no_band_fault (decimal n)))) None) high

takes_band : (complex : Bool) (file : Option File) (n : ℕ) → 0 < n → n ≤ 256 → Takes (source_step complex) 3 (source_band_markup n) (Ok (parts file None None None None None None None)) (Ok (parts file (Some n) None None None None None None))
takes_band complex file n some few =
    let s : SourceParts = parts file None None None None None None None in
    takes_to (source_step complex) 3 (source_band_markup n) (Ok s) _ _
    (takes_marks (source_step complex) 3 (codes "SourceBand") [] (decimal n) (Ok s) (λ w. with_band s (source_band_by w.0 w.1)) (omega arith)
    (record { named = record { first = refl; later = refl }; pairs = tt; distinct = refl })
    (figures_marks (decimal n) (decimal_figures n (omega arith))) (λ place f. refl))
    (ap (with_band s) (band_is n some few))

-- rectangles
limit_is : (v : ℤ) → IsOffset v → within_limit v ≡ Ok v
limit_is v small =
    let low : nat_lt (8388608 * million) (unsigned_abs v) ≡ false = grind (arith, nat_tests) in
    ap (λ b. cond b (Err Limit) (Ok v)) low

offset_is : (v : ℤ) → IsOffset v → offset_in (Some (micro_text v)) ≡ Ok v
offset_is v small = ap (λ o. ok_or o BadNumber >>= within_limit) (micro_again v (omega (arith, small))) ∙ limit_is v small

above_zero : (v : ℤ) → pos 0 <ℤ v → int_lt (pos 0) v ≡ true
above_zero v some = grind (arith, nat_tests, ints)

size_is : (v : ℤ) → pos 0 <ℤ v → IsOffset v → size_in (Some (micro_text v)) ≡ Ok v
size_is v some small =
    ap (λ o. ok_or o BadNumber >>= some_size) (micro_again v (omega (arith, small)))
    ∙ ap (λ b. cond b (within_limit v) (Err BadNumber)) (above_zero v some)
    ∙ limit_is v small

rect_again : (r : Rectangle) (alone : Bool) (name : List ℕ) → IsRectangle r → rect_of (tag_of name (rectangle_pairs r) alone) stop ≡ Ok r
unfolding rect_of rect_by
rect_again r alone name is =
    let children : Result Bool VrtFault = Ok true in
    ap (λ x. rect_by x (offset_in (Some (micro_text r.y))) (size_in (Some (micro_text r.w))) (size_in (Some (micro_text r.h))) true children) (offset_is r.x is.left)
    ∙ ap (λ y. rect_by (Ok r.x) y (size_in (Some (micro_text r.w))) (size_in (Some (micro_text r.h))) true children) (offset_is r.y is.top)
    ∙ ap (λ w. rect_by (Ok r.x) (Ok r.y) w (size_in (Some (micro_text r.h))) true children) (size_is r.w is.some_width is.width)
    ∙ ap (λ h. rect_by (Ok r.x) (Ok r.y) (Ok r.w) h true children) (size_is r.h is.some_height is.height)

rect_opening : (name : List ℕ) (r : Rectangle) → IsRectangle r → IsOpening name [] → IsOpening name (rectangle_pairs r)
rect_opening name r is opening = record {
  named = opening.named;
  pairs = (
    (record { first = refl; later = refl }, figures_value (micro_text r.x) (micro_figures r.x (omega (arith, is.left)))),
    (
      (record { first = refl; later = refl }, figures_value (micro_text r.y) (micro_figures r.y (omega (arith, is.top)))),
      (
        (record { first = refl; later = refl }, figures_value (micro_text r.w) (micro_figures r.w (omega (arith, is.width)))),
        ((record { first = refl; later = refl }, figures_value (micro_text r.h) (micro_figures r.h (omega (arith, is.height)))), tt),
      ),
    ),
  );
  distinct = refl;
}

takes_src : (complex : Bool) (file : Option File) (n : Option ℕ) (o : Option Rectangle) → IfSome o IsRectangle → Takes (source_step complex) 3 (rectangle_markup (codes "SrcRect") o) (Ok (parts file n None None None None None None)) (Ok (parts file n o None None None None None))
takes_src complex file n None is = takes_nothing (source_step complex) 3 (Ok (parts file n None None None None None None))
takes_src complex file n (Some r) is =
    let s : SourceParts = parts file n None None None None None None in
    let name : List ℕ = codes "SrcRect" in
    takes_empty (source_step complex) 3 name (rectangle_pairs r) (Ok s) (Ok (parts file n (Some r) None None None None None)) (omega arith)
    (rect_opening name r is (record { named = record { first = refl; later = refl }; pairs = tt; distinct = refl }))
    (λ place. ap (with_src s) (sym (rect_again r true name is)))

takes_dst : (complex : Bool) (file : Option File) (n : Option ℕ) (src o : Option Rectangle) → IfSome o IsRectangle → Takes (source_step complex) 3 (rectangle_markup (codes "DstRect") o) (Ok (parts file n src None None None None None)) (Ok (parts file n src o None None None None))
takes_dst complex file n src None is = takes_nothing (source_step complex) 3 (Ok (parts file n src None None None None None))
takes_dst complex file n src (Some r) is =
    let s : SourceParts = parts file n src None None None None None in
    let name : List ℕ = codes "DstRect" in
    takes_empty (source_step complex) 3 name (rectangle_pairs r) (Ok s) (Ok (parts file n src (Some r) None None None None)) (omega arith)
    (rect_opening name r is (record { named = record { first = refl; later = refl }; pairs = tt; distinct = refl }))
    (λ place. ap (with_dst s) (sym (rect_again r true name is)))

pub place_taken : (complex : Bool) (v : SourceValue) → IsSource v → Takes (source_step complex) 3 (place_markup v) (Ok no_parts) (Ok (parts (Some (file_of v.relative v.file)) (Some v.band) v.src v.dst None None None None))
place_taken complex v is =
    let file : Option File = Some (file_of v.relative v.file) in
    takes_both (source_step complex) 3 (file_markup v.relative v.file) _ (Ok no_parts) (Ok (parts file None None None None None None None)) _
    (takes_file complex v.relative v.file is.text)
    (takes_both (source_step complex) 3 (source_band_markup v.band) _ _ (Ok (parts file (Some v.band) None None None None None None)) _
    (takes_band complex file v.band is.some_band is.band)
    (takes_both (source_step complex) 3 (rectangle_markup (codes "SrcRect") v.src) _ _ (Ok (parts file (Some v.band) v.src None None None None None)) _
    (takes_src complex file (Some v.band) v.src is.src)
    (takes_dst complex file (Some v.band) v.src v.dst is.dst)))

-- A number that is written where it isn't the usual one.
abbrev pub unless_usual : ℤ → ℤ → Option ℤ
unless_usual usual v = cond (unsigned_abs (v -ℤ usual) == 0) None (Some v)

abbrev pub with_value : Option ℤ → Option (Option ℤ)
with_value None = None
with_value (Some v) = Some (Some v)

usual_case : (usual v : ℤ) (b : Bool) → (unsigned_abs (v -ℤ usual) == 0) ≡ b → unwrap_or (cond b None (Some v)) usual ≡ v
usual_case usual v true e =
    let none : unsigned_abs (v -ℤ usual) ≡ 0 = grind (arith, nat_tests) in
    omega (arith, ints)
usual_case usual v false e = refl

usual_again : (usual v : ℤ) → unwrap_or (unless_usual usual v) usual ≡ v
usual_again usual v = usual_case usual v (unsigned_abs (v -ℤ usual) == 0) refl

-- the NODATA of a source, which changes pixels
pub nodata_is : (n : ℤ) → unsigned_abs n < 10 ^ 20 → nodata_by (signed_decimal n) None ≡ Ok (Some n)
nodata_is n small =
    ap (λ (t : List ℕ). childless None (whole_of t)) (trim_same (signed_decimal n) (signed_figures n (omega arith)))
    ∙ ap (childless None) (whole_again_wide n small)

abbrev placed : File → ℕ → Option Rectangle → Option Rectangle → Option (Option ℤ) → Option ℤ → Option ℤ → SourceParts
placed file n src dst nodata offset ratio = parts (Some file) (Some n) src dst nodata offset ratio None

takes_nodata : (file : File) (n : ℕ) (src dst : Option Rectangle) (o : Option ℤ) → IfSome o (λ v. unsigned_abs v < 10 ^ 20) → Takes (source_step true) 3 (nodata_markup (codes "NODATA") o) (Ok (placed file n src dst None None None)) (Ok (placed file n src dst (with_value o) None None))
takes_nodata file n src dst None is = takes_nothing (source_step true) 3 (Ok (placed file n src dst None None None))
takes_nodata file n src dst (Some v) is =
    let s : SourceParts = placed file n src dst None None None in
    takes_to (source_step true) 3 (words (codes "NODATA") [] (signed_decimal v)) (Ok s) _ _
    (takes_marks (source_step true) 3 (codes "NODATA") [] (signed_decimal v) (Ok s) (λ w. with_nodata s (nodata_by w.0 w.1)) (omega arith)
    (record { named = record { first = refl; later = refl }; pairs = tt; distinct = refl })
    (figures_marks (signed_decimal v) (signed_figures v (omega (arith, is)))) (λ place f. refl))
    (ap (with_nodata s) (nodata_is v is))

-- its offset and its ratio
scale_is : (v : ℤ) → unsigned_abs v < trillion * trillion → scale_text (part_text v) None ≡ Ok v
scale_is v small =
    let low : nat_lt (unsigned_abs v) (10 ^ 24) ≡ true = grind (arith, nat_tests) in
    ap (λ (t : List ℕ). judged (scale_by (places_of 12 t)) None) (trim_same (part_text v) (part_figures v (omega arith)))
    ∙ ap (λ o. judged (scale_by o) None) (part_again v (omega arith))
    ∙ ap (λ b. judged (cond b (Ok v) (Err BadNumber)) None) low

part_marks : (v : ℤ) → unsigned_abs v < trillion * trillion → AreMarks (part_text v)
part_marks v small = figures_marks (part_text v) (part_figures v (omega arith))

offset_case : (file : File) (n : ℕ) (src dst : Option Rectangle) (nodata : Option (Option ℤ)) (v : ℤ) (b : Bool) → unsigned_abs v < trillion * trillion → Takes (source_step true) 3 (cond b nothing (words (codes "ScaleOffset") [] (part_text v))) (Ok (placed file n src dst nodata None None)) (Ok (placed file n src dst nodata (cond b None (Some v)) None))
offset_case file n src dst nodata v true small = takes_nothing (source_step true) 3 (Ok (placed file n src dst nodata None None))
offset_case file n src dst nodata v false small =
    let s : SourceParts = placed file n src dst nodata None None in
    takes_to (source_step true) 3 (words (codes "ScaleOffset") [] (part_text v)) (Ok s) _ _
    (takes_marks (source_step true) 3 (codes "ScaleOffset") [] (part_text v) (Ok s) (λ w. with_offset s (scale_text w.0 w.1)) (omega arith)
    (record { named = record { first = refl; later = refl }; pairs = tt; distinct = refl })
    (part_marks v small) (λ place f. refl))
    (ap (with_offset s) (scale_is v small))

ratio_case : (file : File) (n : ℕ) (src dst : Option Rectangle) (nodata : Option (Option ℤ)) (offset : Option ℤ) (v : ℤ) (b : Bool) → unsigned_abs v < trillion * trillion → Takes (source_step true) 3 (cond b nothing (words (codes "ScaleRatio") [] (part_text v))) (Ok (placed file n src dst nodata offset None)) (Ok (placed file n src dst nodata offset (cond b None (Some v))))
ratio_case file n src dst nodata offset v true small = takes_nothing (source_step true) 3 (Ok (placed file n src dst nodata offset None))
ratio_case file n src dst nodata offset v false small =
    let s : SourceParts = placed file n src dst nodata offset None in
    takes_to (source_step true) 3 (words (codes "ScaleRatio") [] (part_text v)) (Ok s) _ _
    (takes_marks (source_step true) 3 (codes "ScaleRatio") [] (part_text v) (Ok s) (λ w. with_ratio s (scale_text w.0 w.1)) (omega arith)
    (record { named = record { first = refl; later = refl }; pairs = tt; distinct = refl })
    (part_marks v small) (λ place f. refl))
    (ap (with_ratio s) (scale_is v small))

-- its table
takes_lut : (file : File) (n : ℕ) (src dst : Option Rectangle) (nodata : Option (Option ℤ)) (offset ratio : Option ℤ) (o : Option (List LutPair)) → IfSome o IsLut → Takes (source_step true) 3 (lut_markup o) (Ok (placed file n src dst nodata offset ratio)) (Ok (parts (Some file) (Some n) src dst nodata offset ratio o))
takes_lut file n src dst nodata offset ratio None is = takes_nothing (source_step true) 3 (Ok (placed file n src dst nodata offset ratio))
takes_lut file n src dst nodata offset ratio (Some pairs) is =
    let s : SourceParts = placed file n src dst nodata offset ratio in
    takes_to (source_step true) 3 (words (codes "LUT") [] (lut_text pairs)) (Ok s) _ _
    (takes_marks (source_step true) 3 (codes "LUT") [] (lut_text pairs) (Ok s) (λ w. with_lut s (lut_by w.0 w.1)) (omega arith)
    (record { named = record { first = refl; later = refl }; pairs = tt; distinct = refl })
    (lut_marks pairs is.near) (λ place f. refl))
    (ap (λ x. with_lut s (judged x None)) (lut_again pairs is))

-- all that is read of a source
abbrev pub all_parts : Bool → SourceValue → SourceParts
all_parts true v = parts (Some (file_of v.relative v.file)) (Some v.band) v.src v.dst (with_value v.nodata) (unless_usual (pos 0) v.offset) (unless_usual (pos trillion) v.ratio) v.lut
all_parts false v = parts (Some (file_of v.relative v.file)) (Some v.band) v.src v.dst None None None None

abbrev scaling : Option ℤ → ℤ → ℤ → Option (List LutPair) → Markup
scaling nodata offset ratio lut = both (nodata_markup (codes "NODATA") nodata) (both (scale_markup (codes "ScaleOffset") (pos 0) offset) (both (scale_markup (codes "ScaleRatio") (pos trillion) ratio) (lut_markup lut)))

plain_scaling : (v : SourceValue) → IsSimple v → scaling_markup v ≡ both nothing (both nothing (both nothing nothing))
plain_scaling v is =
    ap (λ n. scaling n v.offset v.ratio v.lut) is.nodata
    ∙ ap (λ n. scaling None n v.ratio v.lut) is.offset
    ∙ ap (λ n. scaling None (pos 0) n v.lut) is.ratio
    ∙ ap (λ n. scaling None (pos 0) (pos trillion) n) is.lut

nothing_taken : (s : SourceParts) → Takes (source_step false) 3 (both nothing (both nothing (both nothing nothing))) (Ok s) (Ok s)
nothing_taken s =
    let n = takes_nothing (source_step false) 3 (Ok s) in
    takes_both (source_step false) 3 nothing _ (Ok s) (Ok s) (Ok s) n (takes_both (source_step false) 3 nothing _ (Ok s) (Ok s) (Ok s) n (takes_both (source_step false) 3 nothing nothing (Ok s) (Ok s) (Ok s) n n))

pub scaling_taken : (b : Bool) (v : SourceValue) → v.complex ≡ b → IsSource v → Takes (source_step b) 3 (scaling_markup v) (Ok (parts (Some (file_of v.relative v.file)) (Some v.band) v.src v.dst None None None None)) (Ok (all_parts b v))
scaling_taken true v e is =
    let file : File = file_of v.relative v.file in
    let offset : Option ℤ = unless_usual (pos 0) v.offset in
    takes_both (source_step true) 3 (nodata_markup (codes "NODATA") v.nodata) _ _ (Ok (placed file v.band v.src v.dst (with_value v.nodata) None None)) _
    (takes_nodata file v.band v.src v.dst v.nodata is.nodata)
    (takes_both (source_step true) 3 (scale_markup (codes "ScaleOffset") (pos 0) v.offset) _ _ (Ok (placed file v.band v.src v.dst (with_value v.nodata) offset None)) _
    (offset_case file v.band v.src v.dst (with_value v.nodata) v.offset (unsigned_abs (v.offset -ℤ pos 0) == 0) is.offset)
    (takes_both (source_step true) 3 (scale_markup (codes "ScaleRatio") (pos trillion) v.ratio) _ _ (Ok (placed file v.band v.src v.dst (with_value v.nodata) offset (unless_usual (pos trillion) v.ratio))) _
    (ratio_case file v.band v.src v.dst (with_value v.nodata) offset v.ratio (unsigned_abs (v.ratio -ℤ pos trillion) == 0) is.ratio)
    (takes_lut file v.band v.src v.dst (with_value v.nodata) offset (unless_usual (pos trillion) v.ratio) v.lut is.lut)))
scaling_taken false v e is = subst (λ (m : Markup). Takes (source_step false) 3 m (Ok (all_parts false v)) (Ok (all_parts false v))) (sym (plain_scaling v (is.simple e))) (nothing_taken (all_parts false v))

pub source_taken : (b : Bool) (v : SourceValue) → v.complex ≡ b → IsSource v → Takes (source_step b) 3 (both (place_markup v) (scaling_markup v)) (Ok no_parts) (Ok (all_parts b v))
source_taken b v e is = takes_both (source_step b) 3 (place_markup v) (scaling_markup v) (Ok no_parts) _ (Ok (all_parts b v)) (place_taken b v is) (scaling_taken b v e is)

-- what they mean
value_again : (o : Option ℤ) → value_in (with_value o) ≡ o
value_again None = refl
value_again (Some v) = refl

abbrev as_source : Bool → SourceValue → Option ℤ → ℤ → ℤ → Option (List LutPair) → SourceValue
as_source complex v nodata offset ratio lut = record { complex = complex; relative = v.relative; file = v.file; band = v.band; src = v.src; dst = v.dst; nodata = nodata; offset = offset; ratio = ratio; lut = lut }

source_made : (b : Bool) (v : SourceValue) → v.complex ≡ b → IsSource v → source_from b (file_of v.relative v.file) (all_parts b v) ≡ v
source_made true v e is =
    ap (λ n. as_source true v n (unwrap_or (unless_usual (pos 0) v.offset) (pos 0)) (unwrap_or (unless_usual (pos trillion) v.ratio) (pos trillion)) v.lut) (value_again v.nodata)
    ∙ ap (λ n. as_source true v v.nodata n (unwrap_or (unless_usual (pos trillion) v.ratio) (pos trillion)) v.lut) (usual_again (pos 0) v.offset)
    ∙ ap (λ n. as_source true v v.nodata v.offset n v.lut) (usual_again (pos trillion) v.ratio)
    ∙ ap (λ c. as_source c v v.nodata v.offset v.ratio v.lut) (sym e)
source_made false v e is =
    let s = is.simple e in
    ap (λ n. as_source false v n (pos 0) (pos trillion) None) (sym s.nodata)
    ∙ ap (λ n. as_source false v v.nodata n (pos trillion) None) (sym s.offset)
    ∙ ap (λ n. as_source false v v.nodata v.offset n None) (sym s.ratio)
    ∙ ap (λ n. as_source false v v.nodata v.offset v.ratio n) (sym s.lut)
    ∙ ap (λ c. as_source c v v.nodata v.offset v.ratio v.lut) (sym e)

all_file : (b : Bool) (v : SourceValue) → (all_parts b v).file ≡ Some (file_of v.relative v.file)
all_file true v = refl
all_file false v = refl

pub source_again : (b : Bool) (v : SourceValue) → v.complex ≡ b → IsSource v → source_end b (all_parts b v) ≡ Ok v
source_again b v e is =
    let some : (length v.file == 0) ≡ false = grind (arith, nat_tests, is.named) in
    ap (source_named b (all_parts b v)) (all_file b v)
    ∙ ap (λ c. cond c (Err MissingPart) (Ok (source_from b (file_of v.relative v.file) (all_parts b v)))) some
    ∙ ap Ok (source_made b v e is)
