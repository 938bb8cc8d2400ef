-- Names of the datasets that sources name.
use Rattle.std.proofs.Common.{◌≡◌, ◌∙◌, ap, sym, refl, ◌+◌, ◌<◌, ◌≤◌, ℕ, zero, suc, List, [], ◌∷◌, ◌++◌, length, take, get_or, Option, Some, arith}
use Rattle.std.specs.Prelude.{fold, sum_by, slice_get, option_map, option_and_then}
use Rattle.std.proofs.lemmas.List.{take_more}
use Rattle.std.proofs.lemmas.List.Sums.{sum_by-cons, sum-map}
use Rattle.std.specs.Option.{unwrap_or}
use Rattle.lists_and_answers.specs.Options.{◌>>=◌}
use Rattle.vrt_profile.specs.Values.{BandValue, SourceValue, DocumentValue, source_count}
use Rattle.catalog.specs.Drivers.{Dataset, document_of}
use Rattle.catalog.specs.Links.{source_at}
use Rattle.location_report.specs.Covering.{sources_at}

fold_last : {A B : Type 0} (f : B → A → B) (b : B) (xs : List A) (x : A) → fold f b (xs ++ x ∷ []) ≡ f (fold f b xs) x
fold_last f b [] x = refl
fold_last f b (y ∷ ys) x = fold_last f (f b y) ys x

-- a fold over one item more
pub fold_more : {A B : Type 0} (f : B → A → B) (b : B) (xs : List A) (k : ℕ) (x d : A) → k < length xs → x ≡ get_or xs k d → fold f b (take (k + 1) xs) ≡ f (fold f b (take k xs)) x
fold_more f b xs k x d less is = ap (fold f b) (take_more xs k d less) ∙ fold_last f b (take k xs) (get_or xs k d) ∙ ap (f (fold f b (take k xs))) (sym is)

-- the sources of a band are among those of all bands

among : (bands : List BandValue) (k : ℕ) (b : BandValue) → slice_get bands k ≡ Some b → length b.sources ≤ sum_by (λ (b : BandValue). length b.sources) bands
among [] k b at = cc
among (c ∷ bands) zero b at = let same : c ≡ b = cc in let len = ap (λ (b : BandValue). length b.sources) same in let e = sum_by-cons (λ (b : BandValue). length b.sources) c bands in omega arith
among (c ∷ bands) (suc k) b at = let more = among bands k b at in let e = sum_by-cons (λ (b : BandValue). length b.sources) c bands in omega arith

pub few_sources : (bands : List BandValue) (k : ℕ) (b : BandValue) → slice_get bands k ≡ Some b → length b.sources ≤ source_count bands
few_sources bands k b at = let e = sum-map (λ (b : BandValue). length b.sources) bands in let h = among bands k b at in omega arith

-- the document of a dataset of a catalog
document_is : (cat : List Dataset) (id : ℕ) (d : Dataset) (o : Option DocumentValue) → slice_get cat id ≡ Some d → option_and_then (λ (d : Dataset). document_of d.content) (slice_get cat id) ≡ o → document_of d.content ≡ o
document_is cat id d o at is = sym (ap (option_and_then (λ (d : Dataset). document_of d.content)) at) ∙ is

-- a source of a band of its document
pub source_stands : (cat : List Dataset) (id band number : ℕ) (d : Dataset) (doc : DocumentValue) (b : BandValue) (s : SourceValue) → option_and_then (λ (d : Dataset). document_of d.content) (slice_get cat id) ≡ Some doc → slice_get doc.bands band ≡ Some b → slice_get b.sources number ≡ Some s → slice_get cat id ≡ Some d → source_at d band number ≡ Some s
source_stands cat id band number d doc b s is band_at at there =
    ap (λ (o : Option DocumentValue). o >>= λ doc. slice_get doc.bands band >>= λ b. slice_get b.sources number) (document_is cat id d (Some doc) there is)
    ∙ ap (λ (o : Option BandValue). o >>= λ b. slice_get b.sources number) band_at ∙ at

-- all sources of a band of its document
pub sources_are : (cat : List Dataset) (id band : ℕ) (d : Dataset) (doc : DocumentValue) (b : BandValue) → option_and_then (λ (d : Dataset). document_of d.content) (slice_get cat id) ≡ Some doc → slice_get doc.bands band ≡ Some b → slice_get cat id ≡ Some d → sources_at d band ≡ b.sources
sources_are cat id band d doc b is band_at there =
    ap (λ (o : Option DocumentValue). unwrap_or (option_map (λ (b : BandValue). b.sources) (o >>= λ doc. slice_get doc.bands band)) []) (document_is cat id d (Some doc) there is)
    ∙ ap (λ (o : Option BandValue). unwrap_or (option_map (λ (b : BandValue). b.sources) o) []) band_at
