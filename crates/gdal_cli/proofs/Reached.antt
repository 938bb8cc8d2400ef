-- Datasets of a catalog by their numbers.
use Rattle.std.proofs.Common.{◌≡◌, ◌∙◌, sym, subst, ◌⊎◌, inl, inr, ◌<◌, ◌≤◌, ℕ, List, length, get_or, Some, None, arith}
use Rattle.std.specs.Prelude.{slice_get, option_map}
use Rattle.std.proofs.lemmas.Option.{slice_get_cases}
use Rattle.catalog.specs.Dataset.{DatasetHead}
use Rattle.catalog.specs.Drivers.{Dataset}
use Rattle.catalog.specs.Walk.{IsDataset, IsCatalog}
use Rattle.catalog.proofs.Found.{some_is, of_item}
use Rattle.translation_runs.proofs.Reached.{told_of}
use Rattle.gdal_cli.specs.Pixels.{AreBands}

-- the dataset of a number
pub there : (cat : List Dataset) (id : ℕ) → id < length cat → (d : Dataset) × (slice_get cat id ≡ Some d)
there cat id less = found (slice_get_cases cat id).1
  where
    found : ((d : Dataset) × (id < length cat) × (slice_get cat id ≡ Some d) × (get_or cat id d ≡ d)) ⊎ ((length cat ≤ id) × (slice_get cat id ≡ None)) → (d : Dataset) × (slice_get cat id ≡ Some d)
    found (inl is) = (is.0, is.2)
    found (inr past) = absurd (omega (arith, past.0))

-- there is one dataset of a number
pub one_dataset : (cat : List Dataset) (id : ℕ) (d e : Dataset) → slice_get cat id ≡ Some d → slice_get cat id ≡ Some e → d ≡ e
one_dataset cat id d e is also = some_is (sym is ∙ also)

-- what holds of the bands of a head
pub bands_of_head : (cat : List Dataset) (id : ℕ) (head : DatasetHead) (Holds : ℕ → Type 0) → id < length cat → option_map (λ (d : Dataset). d.head) (slice_get cat id) ≡ Some head → Holds (length head.bands) → AreBands cat id Holds
bands_of_head cat id head Holds less told holds =
    let d = there cat id less in
    record { dataset = d.0; at = d.1; holds = subst (λ (h : DatasetHead). Holds (length h.bands)) (sym (told_of (λ (d : Dataset). d.head) cat id d.0 head d.1 told)) holds }

-- a head has 256 bands at the most
pub few_bands : (cat : List Dataset) (id : ℕ) (head : DatasetHead) → IsCatalog cat → id < length cat → option_map (λ (d : Dataset). d.head) (slice_get cat id) ≡ Some head → length head.bands ≤ 256
few_bands cat id head valid less told =
    let d = there cat id less in
    let is : IsDataset d.0 = of_item IsDataset cat id d.0 valid.each d.1 in
    subst (λ (h : DatasetHead). length h.bands ≤ 256) (told_of (λ (d : Dataset). d.head) cat id d.0 head d.1 told) is.valid.bands
