-- How many bands and sources a mosaic has.
use Rattle.std.proofs.Common.{◌≡◌, ◌∙◌, sym, ap, ℕ, zero, suc, ◌+◌, ◌*◌, ◌-◌, ◌<◌, ◌≤◌, Bool, true, false, ◌&&◌, List, [], ◌∷◌, ◌++◌, length, refl, arith, Option, Some, None, option_map, slice_get, nat_le, map, length-append, take, get_or, Ok, Err}
use Rattle.std.specs.Prelude.{if◌then◌else◌}
use Rattle.std.specs.Prelude.{ℤ, unsigned_abs, ◌^◌}
use Rattle.std.specs.List.{All}
use Rattle.std.specs.List.{filter_map, list_all, cons_option, AllByRecursion, range_with_len}
use Rattle.std.proofs.lemmas.List.{take_more}
use Rattle.std.proofs.lemmas.List.Elements.{recursion_from_All}
use Rattle.std.proofs.lemmas.List.Elements.{filter_map-append}
use Rattle.buildvrt.specs.declared.faults.BuildFault.TheVariants.{Limit}
use Rattle.geotransform.specs.Types.{is_in}
use Rattle.geotransform.specs.declared.types.PixelType.{PixelType}
use Rattle.geotransform.proofs.Ranges.{is_near}
use Rattle.std.proofs.lemmas.List.FromFn.{length-range_with_len}
use Rattle.std.proofs.lemmas.Bool.Decides.{nat_tests}
use Rattle.std.proofs.lemmas.List.Sums.{sum_by-cons}
use Rattle.vrt_profile.specs.Values.{SourceValue, BandValue, Rectangle, source_count}
use Rattle.catalog.specs.Dataset.{DatasetHead, IsDatasetHead}
use Rattle.catalog.specs.declared.kind.BandHead.{BandHead}
use Rattle.buildvrt.specs.Options.{Options}
use Rattle.buildvrt.specs.Judging.{numbered_band, has_bands, numbers_or_all, taken_bands}
use Rattle.buildvrt.specs.Rectangles.{PatchValue, IsPatch}
use Rattle.buildvrt.specs.Bands.{source_of, source_in, band_from, band_with, own_band, common_bands, separate_bands, bands_within, is_few, shown_count}
use Rattle.buildvrt.specs.Limits.{FitsDocument}

-- each input that isn't left out gives a source
sources_by : (f : Rectangle → SourceValue) (r : Option Rectangle) (ss : List SourceValue) (rs : List Rectangle) → length ss ≡ length rs → length (cons_option (option_map f r) ss) ≡ length (cons_option r rs)
sources_by f None ss rs e = e
sources_by f (Some r) ss rs e = ap suc e

pub sources_shown : (o : Options) (n : ℕ) (ps : List PatchValue) → length (filter_map (source_in o n) ps) ≡ shown_count ps
sources_shown o n [] = refl
sources_shown o n (p ∷ ps) = sources_by (source_of o p.head n) p.shown _ _ (sources_shown o n ps)

-- a band by its number is there
there : (bs : List BandHead) (k : ℕ) → k < length bs → (b : BandHead) × (slice_get bs k ≡ Some b)
there [] k h = absurd (omega arith)
there (b ∷ bs) zero h = (b, refl)
there (b ∷ bs) (suc k) h = there bs k (omega arith)

is_there : (h : DatasetHead) (n : ℕ) → 0 < length h.bands → nat_le n (length h.bands) ≡ true → (b : BandHead) × (numbered_band h n ≡ Some b)
is_there h n some e =
    let less : n ≤ length h.bands = grind (arith, nat_tests) in
    there h.bands (n - 1) (omega arith)

both : (a b : Bool) → (a && b) ≡ true → (a ≡ true) × (b ≡ true)
both true true e = (refl, refl)
both true false e = absurd cc
both false b e = absurd cc

-- each band that there is gives a band, with a source of each input that isn't left out
with_one : (o : Options) (h : DatasetHead) (ps : List PatchValue) (n : ℕ) (b : BandHead) (bs : List BandValue) → numbered_band h n ≡ Some b → cons_option (band_with o h ps n) bs ≡ band_from o b n ps ∷ bs
with_one o h ps n b bs e = ap (λ (x : Option BandHead). cons_option (option_map (λ y. band_from o y n ps) x) bs) e

pub bands_count : (o : Options) (h : DatasetHead) (ps : List PatchValue) (ns : List ℕ) → 0 < length h.bands → has_bands h ns ≡ true → length (filter_map (band_with o h ps) ns) ≡ length ns
bands_count o h ps [] some e = refl
bands_count o h ps (n ∷ ns) some e =
    let parts = both (nat_le n (length h.bands)) (has_bands h ns) e in
    let b = is_there h n some parts.0 in
    ap length (with_one o h ps n b.0 (filter_map (band_with o h ps) ns) b.1) ∙ ap suc (bands_count o h ps ns some parts.1)

one_band : (b : BandValue) (bs : List BandValue) (s n : ℕ) → length b.sources ≡ s → source_count bs ≡ n * s → source_count (b ∷ bs) ≡ suc n * s
one_band b bs s n p q =
    let more : source_count (b ∷ bs) ≡ s + n * s = sum_by-cons (λ n. n) (length b.sources) (map (λ (x : BandValue). length x.sources) bs) ∙ ap (λ (x : ℕ). x + source_count bs) p ∙ ap (λ (y : ℕ). s + y) q in
    more ∙ omega arith

pub bands_sources : (o : Options) (h : DatasetHead) (ps : List PatchValue) (ns : List ℕ) → 0 < length h.bands → has_bands h ns ≡ true → source_count (filter_map (band_with o h ps) ns) ≡ length ns * shown_count ps
bands_sources o h ps [] some e = omega arith
bands_sources o h ps (n ∷ ns) some e =
    let parts = both (nat_le n (length h.bands)) (has_bands h ns) e in
    let b = is_there h n some parts.0 in
    let one : length (band_from o b.0 n ps).sources ≡ shown_count ps = sources_shown o n ps in
    let more : source_count (filter_map (band_with o h ps) ns) ≡ length ns * shown_count ps = bands_sources o h ps ns some parts.1 in
    ap source_count (with_one o h ps n b.0 (filter_map (band_with o h ps) ns) b.1) ∙ one_band (band_from o b.0 n ps) (filter_map (band_with o h ps) ns) (shown_count ps) (length ns) one more

-- one band for each input: each has a first band
own_one : (o : Options) (p : PatchValue) (b : BandHead) (bs : List BandValue) → numbered_band p.head 1 ≡ Some b → cons_option (own_band o p) bs ≡ band_from o b 1 (p ∷ []) ∷ bs
own_one o p b bs e = ap (λ (x : Option BandHead). cons_option (option_map (λ y. band_from o y 1 (p ∷ [])) x) bs) e

first_band : (h : DatasetHead) → 0 < length h.bands → (b : BandHead) × (numbered_band h 1 ≡ Some b)
first_band h some = there h.bands 0 some

-- the first of the inputs, and those behind it
shown-append : (ps qs : List PatchValue) → shown_count (ps ++ qs) ≡ shown_count ps + shown_count qs
shown-append ps qs = ap length (filter_map-append (λ (q : PatchValue). q.shown) ps qs) ∙ length-append (filter_map (λ (q : PatchValue). q.shown) ps) (filter_map (λ (q : PatchValue). q.shown) qs)

one_shown : (p : PatchValue) (ps : List PatchValue) → shown_count (p ∷ ps) ≡ shown_count (p ∷ []) + shown_count ps
one_shown p ps = ap length (filter_map-append (λ (q : PatchValue). q.shown) (p ∷ []) ps) ∙ length-append (filter_map (λ (q : PatchValue). q.shown) (p ∷ [])) (filter_map (λ (q : PatchValue). q.shown) ps)

pub own_count : (o : Options) (ps : List PatchValue) → AllByRecursion IsPatch ps → length (separate_bands o ps) ≡ length ps
own_count o [] all = refl
own_count o (p ∷ ps) all =
    let b = first_band p.head all.0.head.some_band in
    ap length (own_one o p b.0 (separate_bands o ps) b.1) ∙ ap suc (own_count o ps all.1)

own_more : (b : BandValue) (bs : List BandValue) (s t : ℕ) → length b.sources ≡ s → source_count bs ≡ t → source_count (b ∷ bs) ≡ s + t
own_more b bs s t p q = sum_by-cons (λ n. n) (length b.sources) (map (λ (x : BandValue). length x.sources) bs) ∙ ap (λ (x : ℕ). x + source_count bs) p ∙ ap (λ y. s + y) q

pub own_sources : (o : Options) (ps : List PatchValue) → AllByRecursion IsPatch ps → source_count (separate_bands o ps) ≡ shown_count ps
own_sources o [] all = refl
own_sources o (p ∷ ps) all =
    let b = first_band p.head all.0.head.some_band in
    ap source_count (own_one o p b.0 (separate_bands o ps) b.1)
    ∙ own_more (band_from o b.0 1 (p ∷ [])) (separate_bands o ps) _ _ (sources_shown o 1 (p ∷ [])) (own_sources o ps all.1)
    ∙ sym (one_shown p ps)

-- a number of a type is small
pub type_bound : (kind : PixelType) (n : ℤ) → is_in kind n ≡ true → unsigned_abs n < 10 ^ 20
type_bound kind n e = omega (arith, is_near kind n e)

-- one input more
pub shown_next : (ps : List PatchValue) (i : ℕ) (p : PatchValue) (c d : ℕ) → i < length ps → p ≡ get_or ps i p → c ≡ shown_count (take i ps) → d ≡ c + shown_count (p ∷ []) → d ≡ shown_count (take (i + 1) ps)
shown_next ps i p c d less is e f =
    f ∙ (ap (λ (x : ℕ). x + shown_count (p ∷ [])) e
    ∙ (sym (shown-append (take i ps) (p ∷ [])) ∙ ap shown_count (ap (λ (q : PatchValue). take i ps ++ q ∷ []) is ∙ sym (take_more ps i p less))))

-- Bands within the limits, by their counts.
counted : (bands : List BandValue) (m n : ℕ) → length bands ≡ m → source_count bands ≡ n → is_few (length bands) (source_count bands) ≡ is_few m n
counted bands m n p q = ap (λ (x : ℕ). is_few x (source_count bands)) p ∙ ap (λ (y : ℕ). is_few m y) q

refused_by : (bands : List BandValue) (m n : ℕ) → length bands ≡ m → source_count bands ≡ n → is_few m n ≡ false → bands_within bands ≡ Err Limit
refused_by bands m n p q e = ap (λ (b : Bool). if b then Ok bands else Err Limit) (counted bands m n p q ∙ e)

passed_by : (bands : List BandValue) (m n : ℕ) → length bands ≡ m → source_count bands ≡ n → is_few m n ≡ true → bands_within bands ≡ Ok bands
passed_by bands m n p q e = ap (λ (b : Bool). if b then Ok bands else Err Limit) (counted bands m n p q ∙ e)

-- what a test that holds says
at_most : (k high : ℕ) → nat_le k high ≡ true → k ≤ high
at_most k high e = grind (arith, nat_tests)

fits_by : (bands : List BandValue) (m n : ℕ) → length bands ≡ m → source_count bands ≡ n → is_few m n ≡ true → 0 < m → FitsDocument bands
fits_by bands m n p q e some =
    let parts = both (nat_le m 256) (nat_le n 262144) e in
    let few : m ≤ 256 = at_most m 256 parts.0 in
    let sources : n ≤ 262144 = at_most n 262144 parts.1 in
    record { some = omega arith; few = omega arith; sources = omega arith }

pub common_refused : (o : Options) (h : DatasetHead) (ps : List PatchValue) (ns : List ℕ) → IsDatasetHead h → has_bands h ns ≡ true → is_few (length ns) (length ns * shown_count ps) ≡ false → bands_within (filter_map (band_with o h ps) ns) ≡ Err Limit
common_refused o h ps ns rules has e = refused_by (filter_map (band_with o h ps) ns) _ _ (bands_count o h ps ns rules.some_band has) (bands_sources o h ps ns rules.some_band has) e

pub common_passed : (o : Options) (h : DatasetHead) (ps : List PatchValue) (ns : List ℕ) → IsDatasetHead h → has_bands h ns ≡ true → is_few (length ns) (length ns * shown_count ps) ≡ true → bands_within (filter_map (band_with o h ps) ns) ≡ Ok (filter_map (band_with o h ps) ns)
common_passed o h ps ns rules has e = passed_by (filter_map (band_with o h ps) ns) _ _ (bands_count o h ps ns rules.some_band has) (bands_sources o h ps ns rules.some_band has) e

pub common_fits : (o : Options) (h : DatasetHead) (ps : List PatchValue) (ns : List ℕ) → IsDatasetHead h → has_bands h ns ≡ true → is_few (length ns) (length ns * shown_count ps) ≡ true → 0 < length ns → FitsDocument (filter_map (band_with o h ps) ns)
common_fits o h ps ns rules has e some = fits_by (filter_map (band_with o h ps) ns) _ _ (bands_count o h ps ns rules.some_band has) (bands_sources o h ps ns rules.some_band has) e some

separate_counts : (o : Options) (ps : List PatchValue) → All IsPatch ps → (length (separate_bands o ps) ≡ length ps) × (source_count (separate_bands o ps) ≡ shown_count ps)
separate_counts o ps all = (own_count o ps (recursion_from_All IsPatch ps all), own_sources o ps (recursion_from_All IsPatch ps all))

pub separate_refused : (o : Options) (ps : List PatchValue) → All IsPatch ps → is_few (length ps) (shown_count ps) ≡ false → bands_within (separate_bands o ps) ≡ Err Limit
separate_refused o ps all e = let n = separate_counts o ps all in refused_by (separate_bands o ps) _ _ n.0 n.1 e

pub separate_passed : (o : Options) (ps : List PatchValue) → All IsPatch ps → is_few (length ps) (shown_count ps) ≡ true → bands_within (separate_bands o ps) ≡ Ok (separate_bands o ps)
separate_passed o ps all e = let n = separate_counts o ps all in passed_by (separate_bands o ps) _ _ n.0 n.1 e

pub separate_fits : (o : Options) (ps : List PatchValue) → All IsPatch ps → is_few (length ps) (shown_count ps) ≡ true → 0 < length ps → FitsDocument (separate_bands o ps)
separate_fits o ps all e some = let n = separate_counts o ps all in fits_by (separate_bands o ps) _ _ n.0 n.1 e some

-- the reference has the bands that are taken of it
range_has : (a n c : ℕ) → a + n ≤ c + 1 → list_all (λ k. nat_le k c) (range_with_len a n) ≡ true
range_has a zero c h = refl
range_has a (suc n) c h =
    let first : nat_le a c ≡ true = grind (arith, nat_tests) in
    let more = range_has (a + 1) n c (omega arith) in
    ap (λ (b : Bool). b && list_all (λ k. nat_le k c) (range_with_len (a + 1) n)) first ∙ more

has_by : (h : DatasetHead) (ns : List ℕ) → has_bands h ns ≡ true → has_bands h (numbers_or_all ns (length h.bands)) ≡ true
has_by h [] e = range_has 1 (length h.bands) (length h.bands) (omega arith)
has_by h (n ∷ ns) e = e

pub taken_has : (o : Options) (h : DatasetHead) → has_bands h o.bands ≡ true → has_bands h (taken_bands o h) ≡ true
taken_has o h e = has_by h o.bands e

some_by : (ns : List ℕ) (count : ℕ) → 0 < count → 0 < length (numbers_or_all ns count)
some_by [] count h = omega (arith, length-range_with_len 1 count)
some_by (n ∷ ns) count h = omega arith

pub taken_some : (o : Options) (h : DatasetHead) → IsDatasetHead h → 0 < length (taken_bands o h)
taken_some o h rules = some_by o.bands (length h.bands) rules.some_band

-- a band for each that is taken, or for each input
pub common_count : (o : Options) (h : DatasetHead) (ps : List PatchValue) → IsDatasetHead h → has_bands h o.bands ≡ true → length (common_bands o h ps) ≡ length (taken_bands o h)
common_count o h ps rules has = bands_count o h ps (taken_bands o h) rules.some_band (taken_has o h has)

pub separate_count : (o : Options) (ps : List PatchValue) → All IsPatch ps → length (separate_bands o ps) ≡ length ps
separate_count o ps all = (separate_counts o ps all).0
