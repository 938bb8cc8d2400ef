-- Bands that are written are read again, with all of their sources.
use Rattle.std.proofs.Common.{◌≡◌, ℕ, ℤ, suc, ◌+◌, ◌^◌, ◌<◌, ◌≤◌, Bool, true, false, cond, List, [], ◌∷◌, ◌++◌, length, map, Option, Some, None, Result, Ok, Err, refl, sym, ap, ◌∙◌, arith, append_assoc, append-nil, unsigned_abs, IfSome, nat_le, codes, ok_or}
use Rattle.std.specs.List.{All}
use Rattle.std.specs.Fmt.{decimal, signed_decimal}
use Rattle.std.proofs.lemmas.Bool.Decides.{nat_tests}
use Rattle.std.proofs.lemmas.Bool.{eq-eqb}
use Rattle.std.proofs.lemmas.List.Sums.{sum_by-cons}
use Rattle.lists_and_answers.specs.Answers.{◌>>=◌}
use Rattle.geotransform.specs.Geo.{Transform}
use Rattle.geotransform.specs.Types.{is_in, name_of, when_in}
use Rattle.geotransform.specs.declared.types.PixelType.{PixelType}
use Rattle.geotransform.proofs.Ranges.{is_near}
use Rattle.geotransform.specs.declared.types.PixelType.TheVariants.{Byte, Int8, UInt16, Int16, UInt32, Int32, UInt64, Int64}
use Rattle.geotransform.proofs.Named.{named_again}
use Rattle.vrt_markup.specs.Items.{plain_len}
use Rattle.vrt_profile.specs.Values.{SourceValue, IsSource, BandValue, IsBand, source_count}
use Rattle.vrt_writing.specs.Spelled.{nothing, both, words, group, nodata_markup, source_tag, place_markup, scaling_markup, source_markup, sources_markup, band_pairs, band_markup, bands_markup}
use Rattle.vrt_profile.specs.Means.{BandParts, no_parts, source_step, source_end, with_source, nodata_by, with_no_data_value, band_step, no_band_parts, kind_in, is_number, is_placed, value_in, DatasetParts, with_raster_band, dataset_step}
use Rattle.vrt_profile.specs.Seen.{source_by, band_by}
use Rattle.vrt_markup.specs.declared.fault.VrtFault.{VrtFault}
use Rattle.vrt_markup.specs.declared.fault.VrtFault.TheVariants.{Unsupported, Limit}
use Rattle.vrt_writing.proofs.Places.{count_again}
use Rattle.vrt_writing.proofs.Figures.{decimal_figures, signed_figures, figures_marks, figures_value}
use Rattle.vrt_writing.proofs.Openings.{IsOpening}
use Rattle.vrt_writing.proofs.Taken.{Takes, takes_nothing, takes_both, takes_group}
use Rattle.vrt_writing.proofs.Sources.{takes_to, takes_marks, all_parts, source_taken, source_again, with_value, nodata_is}

pub all_head : {X : Type 0} (P : X → Type 0) (x : X) (xs : List X) → All P (x ∷ xs) → P x
all_head P x xs h = h 0 x (omega arith)

pub all_tail : {X : Type 0} (P : X → Type 0) (x : X) (xs : List X) → All P (x ∷ xs) → All P xs
all_tail P x xs h = λ k d less. h (suc k) d (omega arith)

-- what is read of a band so far
abbrev pub band_of : ℕ → Option (Option ℤ) → List SourceValue → BandParts
band_of taken nodata sources = record { taken = taken; nodata = nodata; sources = sources }

source_opening : (b : Bool) → IsOpening (source_tag b) []
source_opening true = record { named = record { first = refl; later = refl }; pairs = tt; distinct = refl }
source_opening false = record { named = record { first = refl; later = refl }; pairs = tt; distinct = refl }

one_source : (b : Bool) (taken : ℕ) (nodata : Option (Option ℤ)) (front : List SourceValue) (v : SourceValue) → v.complex ≡ b → IsSource v → taken + length front < 262144 → with_source (band_of taken nodata front) (source_by b true true (Ok (all_parts b v))) ≡ Ok (band_of taken nodata (front ++ v ∷ []))
one_source b taken nodata front v e is few =
    let s : BandParts = band_of taken nodata front in
    let low : nat_le 262144 (taken + length front) ≡ false = grind (arith, nat_tests) in
    ap (λ c. cond c (Err Limit) (source_end b (all_parts b v) >>= λ x. Ok (record s { sources = front ++ x ∷ [] }))) low
    ∙ ap (λ r. r >>= λ x. Ok (record s { sources = front ++ x ∷ [] })) (source_again b v e is)

takes_source_by : (b : Bool) (taken : ℕ) (nodata : Option (Option ℤ)) (front : List SourceValue) (v : SourceValue) → v.complex ≡ b → IsSource v → taken + length front < 262144 → Takes band_step 2 (group (source_tag b) [] (both (place_markup v) (scaling_markup v))) (Ok (band_of taken nodata front)) (Ok (band_of taken nodata (front ++ v ∷ [])))
takes_source_by true taken nodata front v e is few =
    let s : BandParts = band_of taken nodata front in
    takes_to band_step 2 (group (source_tag true) [] (both (place_markup v) (scaling_markup v))) (Ok s) _ _
    (takes_group band_step (source_step true) 2 (source_tag true) [] (both (place_markup v) (scaling_markup v)) (Ok s) (Ok no_parts) (Ok (all_parts true v)) (λ p. with_source s (source_by true true p.1 p.0)) (omega arith) (source_opening true) (source_taken true v e is) (λ place f. refl))
    (one_source true taken nodata front v e is few)
takes_source_by false taken nodata front v e is few =
    let s : BandParts = band_of taken nodata front in
    takes_to band_step 2 (group (source_tag false) [] (both (place_markup v) (scaling_markup v))) (Ok s) _ _
    (takes_group band_step (source_step false) 2 (source_tag false) [] (both (place_markup v) (scaling_markup v)) (Ok s) (Ok no_parts) (Ok (all_parts false v)) (λ p. with_source s (source_by false true p.1 p.0)) (omega arith) (source_opening false) (source_taken false v e is) (λ place f. refl))
    (one_source false taken nodata front v e is few)

takes_source : (taken : ℕ) (nodata : Option (Option ℤ)) (front : List SourceValue) (v : SourceValue) → IsSource v → taken + length front < 262144 → Takes band_step 2 (source_markup v) (Ok (band_of taken nodata front)) (Ok (band_of taken nodata (front ++ v ∷ [])))
takes_source taken nodata front v is few = takes_source_by v.complex taken nodata front v refl is few

length_push : {A : Type 0} (xs : List A) (x : A) → length (xs ++ x ∷ []) ≡ suc (length xs)
length_push [] x = refl
length_push (y ∷ ys) x = ap suc (length_push ys x)

takes_sources : (taken : ℕ) (nodata : Option (Option ℤ)) (front ss : List SourceValue) → All IsSource ss → taken + length front + length ss ≤ 262144 → Takes band_step 2 (sources_markup ss) (Ok (band_of taken nodata front)) (Ok (band_of taken nodata (front ++ ss)))
takes_sources taken nodata front [] is few =
    takes_to band_step 2 nothing (Ok (band_of taken nodata front)) _ _
    (takes_nothing band_step 2 (Ok (band_of taken nodata front)))
    (ap (λ x. Ok (band_of taken nodata x)) (sym (append-nil front)))
takes_sources taken nodata front (s ∷ ss) is few =
    takes_to band_step 2 (both (source_markup s) (sources_markup ss)) (Ok (band_of taken nodata front)) _ _
    (takes_both band_step 2 (source_markup s) (sources_markup ss) (Ok (band_of taken nodata front)) (Ok (band_of taken nodata (front ++ s ∷ []))) _
    (takes_source taken nodata front s (all_head IsSource s ss is) (omega arith))
    (takes_sources taken nodata (front ++ s ∷ []) ss (all_tail IsSource s ss is) (omega (arith, length_push front s))))
    (ap (λ x. Ok (band_of taken nodata x)) (append_assoc front (s ∷ []) ss))

-- its NODATA
pub in_range : (kind : PixelType) (n : ℤ) → is_in kind n ≡ true → unsigned_abs n < 10 ^ 20
in_range kind n h = omega (arith, is_near kind n h)

takes_value : (kind : PixelType) (taken : ℕ) (o : Option ℤ) → IfSome o (λ n. is_in kind n ≡ true) → Takes band_step 2 (nodata_markup (codes "NoDataValue") o) (Ok (no_band_parts taken)) (Ok (band_of taken (with_value o) []))
takes_value kind taken None is = takes_nothing band_step 2 (Ok (no_band_parts taken))
takes_value kind taken (Some n) is =
    let small = in_range kind n is in
    let s : BandParts = no_band_parts taken in
    takes_to band_step 2 (words (codes "NoDataValue") [] (signed_decimal n)) (Ok s) _ _
    (takes_marks band_step 2 (codes "NoDataValue") [] (signed_decimal n) (Ok s) (λ w. with_no_data_value s (nodata_by w.0 w.1)) (omega arith)
    (record { named = record { first = refl; later = refl }; pairs = tt; distinct = refl })
    (figures_marks (signed_decimal n) (signed_figures n (omega (arith, small)))) (λ place f. refl))
    (ap (with_no_data_value s) (nodata_is n small))

band_inside : (taken : ℕ) (b : BandValue) → IsBand b → taken + length b.sources ≤ 262144 → Takes band_step 2 (both (nodata_markup (codes "NoDataValue") b.nodata) (sources_markup b.sources)) (Ok (no_band_parts taken)) (Ok (band_of taken (with_value b.nodata) b.sources))
band_inside taken b is few =
    takes_both band_step 2 (nodata_markup (codes "NoDataValue") b.nodata) (sources_markup b.sources) (Ok (no_band_parts taken)) (Ok (band_of taken (with_value b.nodata) [])) _
    (takes_value b.kind taken b.nodata is.nodata)
    (takes_sources taken (with_value b.nodata) [] b.sources is.sources (omega arith))

-- a whole band
kept_nodata : (kind : PixelType) (o : Option ℤ) → IfSome o (λ n. is_in kind n ≡ true) → when_in kind (value_in (with_value o)) ≡ o
kept_nodata kind None is = refl
kept_nodata kind (Some n) is = ap (λ c. cond c (Some n) None) is

abbrev as_band : PixelType → Option ℤ → List SourceValue → BandValue
as_band kind nodata sources = record { kind = kind; nodata = nodata; sources = sources }

kind_value : (kind : PixelType) (r : List ℕ) → plain_len 34 (name_of kind ++ 34 ∷ r) ≡ length (name_of kind)
kind_value Byte r = refl
kind_value Int8 r = refl
kind_value UInt16 r = refl
kind_value Int16 r = refl
kind_value UInt32 r = refl
kind_value Int32 r = refl
kind_value UInt64 r = refl
kind_value Int64 r = refl

band_opening : (n : ℕ) (kind : PixelType) → n ≤ 256 → IsOpening (codes "VRTRasterBand") (band_pairs n kind)
band_opening n kind few = record {
  named = record { first = refl; later = refl };
  pairs = (
    (record { first = refl; later = refl }, record { plain = kind_value kind }),
    ((record { first = refl; later = refl }, figures_value (decimal n) (decimal_figures n (omega arith))), tt),
  );
  distinct = refl;
}

placed_again : (n : ℕ) → n ≤ 256 → is_placed n (Some (decimal n)) ≡ true
placed_again n few = ap (is_number n) (count_again n (omega arith)) ∙ eq-eqb n n refl

band_again : (n taken : ℕ) (b : BandValue) → IsBand b → n ≤ 256 → band_by (kind_in (Some (name_of b.kind))) (is_placed n (Some (decimal n))) true true (Ok (band_of taken (with_value b.nodata) b.sources)) ≡ Ok b
band_again n taken b is few =
    let parts : Result BandParts VrtFault = Ok (band_of taken (with_value b.nodata) b.sources) in
    ap (λ o. band_by (ok_or o Unsupported) (is_placed n (Some (decimal n))) true true parts) (named_again b.kind false)
    ∙ ap (λ c. band_by (Ok b.kind) c true true parts) (placed_again n few)
    ∙ ap (λ o. Ok (as_band b.kind o b.sources)) (kept_nodata b.kind b.nodata is.nodata)

-- what is read of a dataset so far
abbrev pub dataset_of : Option (List ℕ) → Option Transform → List BandValue → ℕ → DatasetParts
dataset_of srs geo bands taken = record { srs = srs; geo = geo; bands = bands; taken = taken }

one_band : (srs : Option (List ℕ)) (geo : Option Transform) (front : List BandValue) (taken n : ℕ) (b : BandValue) → n ≡ suc (length front) → IsBand b → length front < 256 → with_raster_band (dataset_of srs geo front taken) (band_by (kind_in (Some (name_of b.kind))) (is_placed (suc (length front)) (Some (decimal n))) true true (Ok (band_of taken (with_value b.nodata) b.sources))) ≡ Ok (dataset_of srs geo (front ++ b ∷ []) (taken + length b.sources))
one_band srs geo front taken n b e is few =
    let s : DatasetParts = dataset_of srs geo front taken in
    let low : nat_le 256 (length front) ≡ false = grind (arith, nat_tests) in
    let parts : Result BandParts VrtFault = Ok (band_of taken (with_value b.nodata) b.sources) in
    ap (λ m. with_raster_band s (band_by (kind_in (Some (name_of b.kind))) (is_placed m (Some (decimal n))) true true parts)) (sym e)
    ∙ ap (with_raster_band s) (band_again n taken b is (omega (arith, e)))
    ∙ ap (λ c. cond c (Err Limit) (Ok (dataset_of srs geo (front ++ b ∷ []) (taken + length b.sources)))) low

takes_band : (srs : Option (List ℕ)) (geo : Option Transform) (front : List BandValue) (taken n : ℕ) (b : BandValue) → n ≡ suc (length front) → IsBand b → length front < 256 → taken + length b.sources ≤ 262144 → Takes dataset_step 1 (band_markup n b) (Ok (dataset_of srs geo front taken)) (Ok (dataset_of srs geo (front ++ b ∷ []) (taken + length b.sources)))
takes_band srs geo front taken n b e is few fits =
    let s : DatasetParts = dataset_of srs geo front taken in
    takes_to dataset_step 1 (band_markup n b) (Ok s) _ _
    (takes_group dataset_step band_step 1 (codes "VRTRasterBand") (band_pairs n b.kind) _ (Ok s) (Ok (no_band_parts taken)) _ (λ p. with_raster_band s (band_by (kind_in (Some (name_of b.kind))) (is_placed (suc (length front)) (Some (decimal n))) true p.1 p.0)) (omega arith) (band_opening n b.kind (omega (arith, e))) (band_inside taken b is fits) (λ place f. refl))
    (one_band srs geo front taken n b e is few)

-- the sources of bands beside those before them
abbrev pub all_taken : ℕ → List BandValue → ℕ
all_taken taken [] = taken
all_taken taken (b ∷ bs) = all_taken (taken + length b.sources) bs

count_more : (b : BandValue) (bs : List BandValue) → source_count (b ∷ bs) ≡ length b.sources + source_count bs
count_more b bs = sum_by-cons (λ n. n) (length b.sources) (map (λ (x : BandValue). length x.sources) bs)

pub takes_bands : (srs : Option (List ℕ)) (geo : Option Transform) (front bs : List BandValue) (taken n : ℕ) → n ≡ suc (length front) → All IsBand bs → length front + length bs ≤ 256 → taken + source_count bs ≤ 262144 → Takes dataset_step 1 (bands_markup n bs) (Ok (dataset_of srs geo front taken)) (Ok (dataset_of srs geo (front ++ bs) (all_taken taken bs)))
takes_bands srs geo front [] taken n e is few fits =
    takes_to dataset_step 1 nothing (Ok (dataset_of srs geo front taken)) _ _
    (takes_nothing dataset_step 1 (Ok (dataset_of srs geo front taken)))
    (ap (λ x. Ok (dataset_of srs geo x taken)) (sym (append-nil front)))
takes_bands srs geo front (b ∷ bs) taken n e is few fits =
    let count = count_more b bs in
    takes_to dataset_step 1 (both (band_markup n b) (bands_markup (suc n) bs)) (Ok (dataset_of srs geo front taken)) _ _
    (takes_both dataset_step 1 (band_markup n b) (bands_markup (suc n) bs) (Ok (dataset_of srs geo front taken)) (Ok (dataset_of srs geo (front ++ b ∷ []) (taken + length b.sources))) _
    (takes_band srs geo front taken n b e (all_head IsBand b bs is) (omega arith) (omega (arith, count, fits)))
    (takes_bands srs geo (front ++ b ∷ []) bs (taken + length b.sources) (suc n) (ap suc e ∙ ap suc (sym (length_push front b))) (all_tail IsBand b bs is) (omega (arith, length_push front b, few)) (omega (arith, count, fits))))
    (ap (λ x. Ok (dataset_of srs geo x (all_taken (taken + length b.sources) bs))) (append_assoc front (b ∷ []) bs))
