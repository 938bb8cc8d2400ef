-- How the document of a plan is made, band after band.
use Rattle.std.proofs.Common.{◌≡◌, ◌∙◌, sym, ap, refl, ℕ, ℤ, suc, ◌+◌, ◌*◌, ◌<◌, List, [], ◌∷◌, ◌++◌, length, map, take, get_or, arith, Option, Some, None}
use Rattle.std.specs.Prelude.{option_map, slice_get}
use Rattle.std.proofs.lemmas.List.{take_more, map-append, length-map}
use Rattle.std.proofs.lemmas.List.Sums.{sum_by-cons}
use Rattle.std.proofs.lemmas.Option.{get_or_from_slice_get}
use Rattle.catalog.proofs.Pixels.{at_number, item}
use Rattle.geotransform.specs.declared.types.PixelType.{PixelType}
use Rattle.vrt_profile.specs.Values.{SourceValue, BandValue, source_count}
use Rattle.vrt_profile.specs.Cover.{whole}
use Rattle.vrt_profile.specs.Resolve.{related}
use Rattle.vrt_profile.specs.Built.{plain_source}
use Rattle.translate_plan.specs.declared.band.OutBand.{OutBand}
use Rattle.translate_plan.specs.Plan.{Planned, IsPlan}
use Rattle.translate_plan.specs.Documents.{window_of, shown_source, shown_band}

-- what is made of an output's band, part by part
pub source_told : (p : Planned) (base name : List ℕ) (o : Option OutBand) (n : ℕ) (s : SourceValue) → option_map (λ b. b.source) o ≡ Some n → s ≡ plain_source (related base name) (n + 1) (window_of p) (whole p.size) None → option_map (shown_source p base name) o ≡ Some s
source_told p base name (Some b) n s e is =
    let same : b.source ≡ n = cc in
    ap (λ (k : ℕ). Some (plain_source (related base name) (k + 1) (window_of p) (whole p.size) None)) same ∙ ap Some (sym is)
source_told p base name None n s e is = absurd cc

source_few_of : (p : Planned) (k n : ℕ) (o : Option OutBand) → slice_get p.bands k ≡ o → IsPlan p → option_map (λ b. b.source) o ≡ Some n → n < 256
source_few_of p k n (Some b) at plan e =
    let same : b.source ≡ n = cc in
    let few : b.source < 256 = item (λ (b : OutBand). b.source < 256) p.bands k b plan.sources at in
    omega (arith, same, few)
source_few_of p k n None at plan e = absurd cc

pub source_few : (p : Planned) (k n : ℕ) → IsPlan p → option_map (λ b. b.source) (slice_get p.bands k) ≡ Some n → n < 256
source_few p k n plan e = source_few_of p k n (slice_get p.bands k) refl plan e

pub sources_told : (p : Planned) (base name : List ℕ) (o : Option OutBand) (s : SourceValue) (l : List SourceValue) → option_map (shown_source p base name) o ≡ Some s → l ≡ [] ++ s ∷ [] → option_map (λ b. shown_source p base name b ∷ []) o ≡ Some l
sources_told p base name (Some b) s l e is =
    let same : shown_source p base name b ≡ s = cc in
    ap (λ (v : SourceValue). Some (v ∷ [])) same ∙ ap Some (sym is)
sources_told p base name None s l e is = absurd cc

pub band_told : (p : Planned) (base name : List ℕ) (o : Option OutBand) (kind : PixelType) (nodata : Option ℤ) (l : List SourceValue) (v : BandValue) → option_map (λ b. b.kind) o ≡ Some kind → option_map (λ b. b.nodata) o ≡ Some nodata → option_map (λ b. shown_source p base name b ∷ []) o ≡ Some l → v ≡ record { kind = kind; nodata = nodata; sources = l } → option_map (shown_band p base name) o ≡ Some v
band_told p base name (Some b) kind nodata l v e f g is =
    let one : b.kind ≡ kind = cc in
    let two : b.nodata ≡ nodata = cc in
    let three : shown_source p base name b ∷ [] ≡ l = cc in
    (λ i. Some (record { kind = one i; nodata = two i; sources = three i })) ∙ ap Some (sym is)
band_told p base name None kind nodata l v e f g is = absurd cc

-- one band more
pub bands_next : (p : Planned) (base name : List ℕ) (k : ℕ) (l m : List BandValue) (v : BandValue) → k < length p.bands → l ≡ map (shown_band p base name) (take k p.bands) → option_map (shown_band p base name) (slice_get p.bands k) ≡ Some v → m ≡ l ++ v ∷ [] → m ≡ map (shown_band p base name) (take (k + 1) p.bands)
bands_next p base name k l m v less e told is =
    let b = at_number p.bands k less in
    let said : Some (shown_band p base name b.0) ≡ Some v = ap (option_map (shown_band p base name)) (sym b.1) ∙ told in
    let same : shown_band p base name b.0 ≡ v = cc in
    let next : take (k + 1) p.bands ≡ take k p.bands ++ b.0 ∷ [] = take_more p.bands k b.0 less ∙ ap (λ (x : OutBand). take k p.bands ++ x ∷ []) (get_or_from_slice_get p.bands k b.0 b.0 b.1) in
    is
    ∙ (ap (λ (x : List BandValue). x ++ v ∷ []) e
    ∙ (ap (λ (x : BandValue). map (shown_band p base name) (take k p.bands) ++ x ∷ []) (sym same)
    ∙ (sym (map-append (shown_band p base name) (take k p.bands) (b.0 ∷ [])) ∙ ap (map (shown_band p base name)) (sym next))))

-- as many sources as bands
sources_of : (p : Planned) (base name : List ℕ) (bs : List OutBand) → source_count (map (shown_band p base name) bs) ≡ length bs
sources_of p base name [] = refl
sources_of p base name (b ∷ bs) = sum_by-cons (λ n. n) 1 (map (λ (x : BandValue). length x.sources) (map (shown_band p base name) bs)) ∙ ap (λ n. 1 + n) (sources_of p base name bs) ∙ omega arith

pub counts_are : (p : Planned) (base name : List ℕ) (l : List BandValue) → l ≡ map (shown_band p base name) p.bands → (length l ≡ length p.bands) × (source_count l ≡ length p.bands)
counts_are p base name l is = (ap length is ∙ length-map p.bands (shown_band p base name), ap source_count is ∙ sources_of p base name p.bands)
