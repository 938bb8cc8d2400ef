-- The walk to the copy.
use Rattle.std.proofs.Common.{◌≡◌, ◌∙◌, ◌⊎◌, ap, sym, subst, inl, inr, ℕ, false, List, [], Result, Ok, Err, Some}
use Rattle.std.specs.Prelude.{slice_get, option_map}
use Rattle.lists_and_answers.specs.Answers.{◌>>=◌}
use Rattle.geotransform.specs.Geo.{IsRaster}
use Rattle.outside.specs.Outside.{Files}
use Rattle.catalog.specs.Outcomes as outcomes
use Rattle.catalog.specs.Dataset.{DatasetHead}
use Rattle.catalog.specs.Drivers.{Dataset}
use Rattle.catalog.specs.Heads.{dataset_in}
use Rattle.catalog.specs.Walk.{dataset_number_in, walked, IsCatalog, IsDataset, IsWalked}
use Rattle.catalog.specs.declared.faults.WalkFault.{WalkFault}
use Rattle.catalog.proofs.Found.{found, name_at, of_item}
use Rattle.error_lines.specs.declared.faults.Fault.{Fault}
use Rattle.error_lines.specs.Faults.{fault_of, by_walk, IsOutside}
use Rattle.mosaic_builds.proofs.Walked.{outside_walk}
use Rattle.synthetic_rasters.specs.Names.{output_name}
use Rattle.translation_runs.proofs.Reached.{told_of, walked_read}
use Rattle.synth_runs.specs.Runs.{copied}
use Rattle.synth_runs.specs.Tallied.{IsCopied}

-- what a walk from no dataset met under the copy's name is the copy
pub copied_is : (m : Files) (old cat : List Dataset) (name : List ℕ) (id : ℕ) (d : Dataset) → name ≡ output_name → old ≡ [] → walked m false old name ≡ Ok cat → (IsWalked m old → IsWalked m cat) → dataset_number_in cat name ≡ Some id → slice_get cat id ≡ Some d → copied m ≡ Ok d
unfolding copied
copied_is m old cat name id d named empty walk more number at =
    let read : dataset_in m false output_name ≡ Ok d = subst (λ (n : List ℕ). dataset_in m false n ≡ Ok d) named (walked_read m old cat name id d empty more at (name_at cat name id d number at)) in
    let whole : walked m false [] output_name ≡ Ok cat = subst (λ (n : List ℕ). walked m false [] n ≡ Ok cat) named (subst (λ (c : List Dataset). walked m false c name ≡ Ok cat) empty walk) in
    ap (λ (e : Result (List Dataset) WalkFault). by_walk e >>= (λ (c : List Dataset). by_walk (dataset_in m false output_name))) whole
    ∙ ap (λ (e : Result Dataset WalkFault). by_walk e) read

-- the walk was refused
after_walk : (m : Files) (f : Fault) (r : Result (List Dataset) Fault) → IsOutside f ⊎ (r ≡ Err f) → IsOutside f ⊎ ((r >>= (λ (c : List Dataset). by_walk (dataset_in m false output_name))) ≡ Err f)
after_walk m f r (inl out) = inl out
after_walk m f r (inr is) = inr (ap (λ (e : Result (List Dataset) Fault). e >>= (λ (c : List Dataset). by_walk (dataset_in m false output_name))) is)

pub copied_refused : (m : Files) (old : List Dataset) (name : List ℕ) (w : WalkFault) (f : Fault) → name ≡ output_name → old ≡ [] → f ≡ fault_of w → outcomes.IsOutside w ⊎ (walked m false old name ≡ Err w) → IsOutside f ⊎ (copied m ≡ Err f)
unfolding copied
copied_refused m old name w f named empty is h =
    let here : outcomes.IsOutside w ⊎ (walked m false [] output_name ≡ Err w) = subst (λ (n : List ℕ). outcomes.IsOutside w ⊎ (walked m false [] n ≡ Err w)) named (subst (λ (c : List Dataset). outcomes.IsOutside w ⊎ (walked m false c name ≡ Err w)) empty h) in
    subst (λ (e : Fault). IsOutside e ⊎ ((by_walk (walked m false [] output_name) >>= (λ (c : List Dataset). by_walk (dataset_in m false output_name))) ≡ Err e)) (sym is)
    (after_walk m (fault_of w) (by_walk (walked m false [] output_name)) (outside_walk w (walked m false [] output_name) here))

-- a dataset of a catalog has a size and a band
pub is_copied : (cat : List Dataset) (name : List ℕ) (id : ℕ) (head : DatasetHead) → IsCatalog cat → dataset_number_in cat name ≡ Some id → option_map (λ (d : Dataset). d.head) (slice_get cat id) ≡ Some head → IsCopied cat id head.size
is_copied cat name id head valid number told =
    let d = found cat name id number in
    let same : d.dataset.head ≡ head = told_of (λ (x : Dataset). x.head) cat id d.dataset head d.at told in
    let is : IsDataset d.dataset = of_item IsDataset cat id d.dataset valid.each d.at in
    record {
      dataset = d.dataset;
      at = d.at;
      sized = ap (λ (h : DatasetHead). h.size) same;
      raster = subst (λ (h : DatasetHead). IsRaster h.size) same is.valid.size;
      banded = is.valid.some_band;
    }
