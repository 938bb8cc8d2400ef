-- The copy of the outer mosaic is read once it is published.
use Rattle.std.proofs.Common.{◌≡◌, ◌∙◌, ap, sym, refl, ℕ, Bool, false, true, List, [], ◌∷◌, ◌++◌, Result, Ok, Err}
use Rattle.lists_and_answers.specs.Answers.{◌>>=◌}
use Rattle.outside.specs.Names.{extension_of, ending_of, last_part, extension_of_ending, header_of}
use Rattle.outside.specs.Outside.{Files}
use Rattle.vrt_profile.specs.Values.{SourceValue}
use Rattle.catalog.specs.Dataset.{DatasetHead}
use Rattle.catalog.specs.Drivers.{Dataset}
use Rattle.catalog.specs.Heads.{kind_in, file_in, header_in, long_enough, raw_in, dataset_by, dataset_in, head_in}
use Rattle.catalog.specs.Pixels.{pixel_of_name}
use Rattle.catalog.specs.Walk.{Met, sources_in, unless_on, room_for, met_or_first, dataset_number_in, visit, visit_step, visit_sources, first_met, met_at_first, walked}
use Rattle.catalog.specs.declared.driver.Found.{Found}
use Rattle.catalog.specs.declared.faults.WalkFault.{WalkFault}
use Rattle.catalog.specs.declared.kind.Kind.{Kind}
use Rattle.catalog.specs.declared.kind.Kind.TheVariants as kinds
use Rattle.translate_plan.specs.Plan.{Planned, raw_head, IsPlan}
use Rattle.write_back.specs.Files.{files_of, with_files}
use Rattle.write_back.specs.Plans.{IsNamedFor}
use Rattle.write_back.specs.Reading.{IsDecoded, IsReadable}
use Rattle.write_back.specs.View.{Output, Blocks}
use Rattle.write_back.specs.declared.forms.Writer.TheVariants.{Raw}
use Rattle.write_back.proofs.HeldFiles.{files_held}
use Rattle.write_back.proofs.Outputs.{pixel_writable}
use Rattle.write_back.proofs.Readings.{output_decoded}
use Rattle.error_lines.specs.declared.faults.Fault.{Fault}
use Rattle.error_lines.specs.Faults.{by_walk}
use Rattle.error_lines.specs.Steps.{published, applied}
use Rattle.output_copies.specs.Steps.{raster_of, translation_steps}
use Rattle.translation_runs.specs.Judged.{Judged, translation_judged, translation_done}
use Rattle.synthetic_rasters.specs.Names.{outer_name, output_name}
use Rattle.synthetic_rasters.specs.Tiles.{IsSide}
use Rattle.synth_runs.specs.Runs.{copied, output_options, output_run}
use Rattle.synth_runs.proofs.Standing.{copy_plan}

-- the first of two answers, where the second is Ok
first_ok : {A B : Type 0} (r : Result A WalkFault) (k : A → Result B WalkFault) (y : B) → (r >>= k) ≡ Ok y → (x : A) × (r ≡ Ok x) × (k x ≡ Ok y)
first_ok (Ok x) k y is = (x, refl, is)
first_ok (Err f) k y is = absurd cc

ok_is : {A : Type 0} {x y : A} → ◌≡◌ {A = Result A WalkFault} (Ok x) (Ok y) → x ≡ y
ok_is e = cc

-- a head is that of a dataset
head_read : (m : Files) (verify : Bool) (name : List ℕ) (head : DatasetHead) → head_in m verify name ≡ Ok head → (d : Dataset) × (dataset_in m verify name ≡ Ok d)
unfolding head_in
head_read m verify name head is = let d = first_ok (dataset_in m verify name) _ head is in (d.0, d.1)

raw_read : (m : Files) (verify : Bool) (name : List ℕ) (d : Dataset) → kind_in name ≡ Ok kinds.Raw → dataset_in m verify name ≡ Ok d → dataset_by kinds.Raw m verify name ≡ Ok d
unfolding dataset_in
raw_read m verify name d kind is = sym (ap (λ (r : Result Kind WalkFault). r >>= λ k. dataset_by k m verify name) kind) ∙ is

-- raw data has no sources
found_alone : (m : Files) (name : List ℕ) (f : Found) → raw_in m name ≡ Ok f → sources_in f.content ≡ []
unfolding raw_in
found_alone m name f is =
    let bytes = first_ok (file_in m name) _ f is in
    let head = first_ok (header_in m (header_of name)) _ f bytes.2 in
    let enough = first_ok (long_enough _ bytes.0 name) _ f head.2 in
    ap (λ (x : Found). sources_in x.content) (sym (ok_is enough.2))

raw_alone : (m : Files) (verify : Bool) (name : List ℕ) (d : Dataset) → dataset_by kinds.Raw m verify name ≡ Ok d → sources_in d.content ≡ []
unfolding dataset_by
raw_alone m verify name d is =
    let found = first_ok (raw_in m name) _ d is in
    ap (λ (x : Dataset). sources_in x.content) (sym (ok_is found.2)) ∙ found_alone m name found.0 found.1

-- the walk from raw data meets its dataset alone
abbrev below : Files → Bool → List (List ℕ) → Met → List ℕ → Result Met WalkFault
below m verify path met name = visit m verify 15 path met name

abbrev only : Dataset → Met
only d = record { datasets = [] ++ d ∷ []; sources = (met_at_first []).sources }

raw_walked : (m : Files) (verify : Bool) (name : List ℕ) (d : Dataset) → kind_in name ≡ Ok kinds.Raw → dataset_by kinds.Raw m verify name ≡ Ok d → walked m verify [] name ≡ Ok (d ∷ [])
unfolding walked visit_step first_met
raw_walked m verify name d kind read =
    ap (λ (r : Result Kind WalkFault). (r >>= λ k. unless_on [] name >>= λ free. room_for 16 k name >>= λ shallow. met_or_first (below m verify) m verify 16 k [] (met_at_first []) name (dataset_number_in [] name)) >>= λ met. Ok met.datasets) kind
    ∙ ap (λ (r : Result Dataset WalkFault). (r >>= λ x. visit_sources (below m verify (name ∷ [])) name (only x) (sources_in x.content)) >>= λ met. Ok met.datasets) read
    ∙ ap (λ (ss : List SourceValue). visit_sources (below m verify (name ∷ [])) name (only d) ss >>= λ met. Ok met.datasets) (raw_alone m verify name d read)

-- the name of the copy is one of raw data
copy_kind : kind_in output_name ≡ Ok kinds.Raw
unfolding extension_of ending_of last_part extension_of_ending
copy_kind = refl

copy_named : (n : ℕ) → IsNamedFor (copy_plan n) output_name
unfolding extension_of ending_of last_part extension_of_ending
copy_named n = refl

copy_readable : (n : ℕ) → IsReadable (copy_plan n) output_name
copy_readable n = record { extension = copy_named n; corner = refl; place = tt }

-- the copy is read where its head is
copied_read : (m : Files) (head : DatasetHead) → head_in m false output_name ≡ Ok head → (d : Dataset) × (copied m ≡ Ok d)
unfolding copied
copied_read m head is =
    let d = head_read m false output_name head is in
    let walk = raw_walked m false output_name d.0 copy_kind (raw_read m false output_name d.0 copy_kind d.1) in (
      d.0,
      ap (λ (e : Result (List Dataset) WalkFault). by_walk e >>= (λ (c : List Dataset). by_walk (dataset_in m false output_name))) walk
          ∙ ap (λ (e : Result Dataset WalkFault). by_walk e) d.1,
    )

-- what is published of the copy: its samples and their header
abbrev copy_output : ℕ → Output
copy_output n = Blocks (Raw (raw_head (copy_plan n)))

abbrev copy_files : ℕ → Files → Dataset → List (List ℕ × List ℕ)
copy_files n m d = files_of (copy_output n) output_name (raster_of m d (copy_plan n))

steps_files : (n : ℕ) (m : Files) (d : Dataset) → applied (published (translation_steps true m d (copy_plan n) output_name)) m ≡ with_files (copy_files n m d) m
unfolding translation_steps
steps_files n m d = refl

run_files : (n : ℕ) (m : Files) (t : Judged) → translation_judged m false outer_name output_options ≡ Ok t → t.plan ≡ copy_plan n → applied (published (output_run m).steps) m ≡ with_files (copy_files n m t.dataset) m
run_files n m t judged planned =
    ap (λ (r : Result Judged Fault). applied (published (translation_done m output_name true r).steps) m) judged
    ∙ ap (λ (p : Planned). applied (published (translation_steps true m t.dataset p output_name)) m) planned
    ∙ steps_files n m t.dataset

-- these files are read
files_decoded : (n : ℕ) (m : Files) (d : Dataset) → IsPlan (copy_plan n) → IsDecoded (with_files (copy_files n m d) m) false output_name (copy_plan n) (raster_of m d (copy_plan n))
files_decoded n m d plan =
    output_decoded (with_files (copy_files n m d) m) false output_name (copy_plan n) (copy_output n) (raster_of m d (copy_plan n)) plan refl (copy_readable n)
    (λ k x y at. pixel_writable (copy_plan n) (copy_output n) d.head.size (pixel_of_name m d.head.name) k x y plan refl at.band)
    (files_held m output_name (copy_plan n) (copy_output n) (raster_of m d (copy_plan n)) refl (copy_named n))

-- after the copy is published, it is read
pub copy_is_read : (n : ℕ) → IsSide n → (m : Files) (t : Judged) → translation_judged m false outer_name output_options ≡ Ok t → t.plan ≡ copy_plan n → IsPlan (copy_plan n) → (d : Dataset) × (copied (applied (published (output_run m).steps) m) ≡ Ok d)
copy_is_read n is m t judged planned plan =
    let decoded = files_decoded n m t.dataset plan in
    let d = copied_read (with_files (copy_files n m t.dataset) m) decoded.head decoded.accepted in
    (d.0, ap copied (run_files n m t judged planned) ∙ d.1)
