-- The mosaic of the tiles is built of them.
use Rattle.std.proofs.Common.{◌≡◌, ◌∙◌, ap, sym, refl, ℕ, ◌<◌, Bool, true, false, List, [], ◌∷◌, ◌++◌, length, map, None, Result, Ok, Err, cond, arith}
use Rattle.std.specs.Prelude.{nat_lt}
use Rattle.std.proofs.lemmas.Bool.Decides.{nat_tests}
use Rattle.lists_and_answers.specs.Answers.{◌>>=◌}
use Rattle.outside.specs.Names.{header_of, extension_of, ending_of, last_part, extension_of_ending}
use Rattle.outside.specs.Outside.{Files}
use Rattle.esri_hdr.specs.Head.{Head}
use Rattle.vrt_profile.specs.Values.{DocumentValue}
use Rattle.catalog.specs.Dataset.{DatasetHead}
use Rattle.catalog.specs.Drivers.{Dataset, dataset_of}
use Rattle.catalog.specs.Heads.{kind_in, dataset_by, dataset_in}
use Rattle.catalog.specs.Walk.{dataset_number_in, met_or_first, visit, visit_sources, sources_in, first_met, visit_step, walked, Met, met_at_first}
use Rattle.catalog.specs.declared.kind.Kind.{Kind}
use Rattle.catalog.specs.declared.kind.Kind.TheVariants as kinds
use Rattle.catalog.specs.declared.driver.DriverHead.TheVariants as drivers
use Rattle.catalog.specs.declared.driver.Content.{Content}
use Rattle.catalog.specs.declared.driver.Content.TheVariants.{File}
use Rattle.catalog.specs.declared.faults.LimitKind.TheVariants as limits
use Rattle.catalog.specs.declared.faults.WalkFault.{WalkFault}
use Rattle.catalog.specs.declared.faults.WalkFault.TheVariants.{Limit}
use Rattle.buildvrt.specs.Mosaic.{mosaic_of}
use Rattle.buildvrt.specs.declared.faults.BuildFault.{BuildFault}
use Rattle.buildvrt.specs.declared.faults.Skipped.{Skipped}
use Rattle.error_lines.specs.declared.faults.Fault.{Fault}
use Rattle.error_lines.specs.Faults.{by_build, by_walk}
use Rattle.published_files.specs.Names.{unless_own}
use Rattle.mosaic_builds.specs.Built.{Built, built_of, built_in, warnings_of}
use Rattle.mosaic_builds.specs.Inputs.{names_in}
use Rattle.mosaic_builds.specs.Walks.{walked_all, heads_of}
use Rattle.synthetic_rasters.specs.Names.{tile_name, tile_names, inner_name}
use Rattle.synthetic_rasters.specs.Tiles.{IsSide, tile_head, tile_data}
use Rattle.synth_runs.specs.Runs.{inner_options}
use Rattle.synth_runs.proofs.Standing.{TilesStand, tile_heads, inner_document}
use Rattle.synth_runs.proofs.TilesRead.{tile_kind, tile_reads}

below : (a b : ℕ) → a < b → nat_lt a b ≡ true
below a b less = grind (arith, nat_tests)

-- The walk from a name of raw data that wasn't met: the file is one dataset more, and no source leads on from it.
first_visit : (m : Files) (verify : Bool) (more : List (List ℕ) → Met → List ℕ → Result Met WalkFault) (met : Met) (name : List ℕ) (d : Dataset) (h : Head) → kind_in name ≡ Ok kinds.Raw → dataset_number_in met.datasets name ≡ None → length met.datasets < 65536 → dataset_in m verify name ≡ Ok d → d.content ≡ File (drivers.Raw h) → visit_step more m verify 16 [] met name ≡ Ok (record { datasets = met.datasets ++ d ∷ []; sources = met.sources })
unfolding visit_step first_met dataset_in
first_visit m verify more met name d h kind fresh few read content =
    let by_kind : dataset_by kinds.Raw m verify name ≡ Ok d = ap (λ (k : Result Kind WalkFault). k >>= λ kind. dataset_by kind m verify name) (sym kind) ∙ read in
    ap (λ (k : Result Kind WalkFault). k >>= λ kind. met_or_first more m verify 16 kind [] met name (dataset_number_in met.datasets name)) kind
    ∙ ap (met_or_first more m verify 16 kinds.Raw [] met name) fresh
    ∙ ap (λ (b : Bool). cond b (Ok tt) (Err (Limit limits.Files 65537)) >>= λ room. (dataset_by kinds.Raw m verify name >>= λ d. visit_sources (more (name ∷ [])) name (record { datasets = met.datasets ++ d ∷ []; sources = met.sources }) (sources_in d.content))) (below (length met.datasets) 65536 few)
    ∙ ap (λ (r : Result Dataset WalkFault). r >>= λ d. visit_sources (more (name ∷ [])) name (record { datasets = met.datasets ++ d ∷ []; sources = met.sources }) (sources_in d.content)) by_kind
    ∙ ap (λ (c : Content). visit_sources (more (name ∷ [])) name (record { datasets = met.datasets ++ d ∷ []; sources = met.sources }) (sources_in c)) content

pub raw_walked : (m : Files) (verify : Bool) (cat : List Dataset) (name : List ℕ) (d : Dataset) (h : Head) → kind_in name ≡ Ok kinds.Raw → dataset_number_in cat name ≡ None → length cat < 65536 → dataset_in m verify name ≡ Ok d → d.content ≡ File (drivers.Raw h) → walked m verify cat name ≡ Ok (cat ++ d ∷ [])
unfolding walked
raw_walked m verify cat name d h kind fresh few read content =
    ap (λ (r : Result Met WalkFault). r >>= λ met. Ok met.datasets) (first_visit m verify (λ p a n. visit m verify 15 p a n) (met_at_first cat) name d h kind fresh few read content)

-- raw data under the names of the tiles
abbrev raw_of : (ℕ → Head) → (ℕ → ℕ) → ℕ → Dataset
raw_of heads lengths t = dataset_of (tile_name t) (record { content = File (drivers.Raw (heads t)); length = lengths t })

abbrev all_raw : (ℕ → Head) → (ℕ → ℕ) → List Dataset
all_raw heads lengths = raw_of heads lengths 0 ∷ raw_of heads lengths 1 ∷ raw_of heads lengths 2 ∷ raw_of heads lengths 3 ∷ []

record AreRead (m : Files) (verify : Bool) (heads : ℕ → Head) (lengths : ℕ → ℕ) : Type 0 where
  each : (t : ℕ) → t < 4 → dataset_in m verify (tile_name t) ≡ Ok (raw_of heads lengths t)

-- one tile more is walked
tile_walked : (m : Files) (verify : Bool) (heads : ℕ → Head) (lengths : ℕ → ℕ) (t : ℕ) (cat : List Dataset) → AreRead m verify heads lengths → t < 4 → dataset_number_in cat (tile_name t) ≡ None → length cat < 65536 → by_walk (walked m verify cat (tile_name t)) ≡ Ok (cat ++ raw_of heads lengths t ∷ [])
tile_walked m verify heads lengths t cat read less fresh few =
    ap (λ (r : Result (List Dataset) WalkFault). by_walk r) (raw_walked m verify cat (tile_name t) (raw_of heads lengths t) (heads t) (tile_kind t less) fresh few (read.each t less) refl)

-- and so are all
all_walked : (m : Files) (verify : Bool) (heads : ℕ → Head) (lengths : ℕ → ℕ) → AreRead m verify heads lengths → walked_all m verify [] tile_names ≡ Ok (all_raw heads lengths)
all_walked m verify heads lengths read =
    let d : ℕ → Dataset = raw_of heads lengths in
    ap (λ (r : Result (List Dataset) Fault). r >>= λ next. walked_all m verify next (tile_name 1 ∷ tile_name 2 ∷ tile_name 3 ∷ [])) (tile_walked m verify heads lengths 0 [] read (omega arith) refl (omega arith))
    ∙ ap (λ (r : Result (List Dataset) Fault). r >>= λ next. walked_all m verify next (tile_name 2 ∷ tile_name 3 ∷ [])) (tile_walked m verify heads lengths 1 (d 0 ∷ []) read (omega arith) refl (omega arith))
    ∙ ap (λ (r : Result (List Dataset) Fault). r >>= λ next. walked_all m verify next (tile_name 3 ∷ [])) (tile_walked m verify heads lengths 2 (d 0 ∷ d 1 ∷ []) read (omega arith) refl (omega arith))
    ∙ ap (λ (r : Result (List Dataset) Fault). r >>= λ next. walked_all m verify next []) (tile_walked m verify heads lengths 3 (d 0 ∷ d 1 ∷ d 2 ∷ []) read (omega arith) refl (omega arith))

all_heads : (heads : ℕ → Head) (lengths : ℕ → ℕ) → heads_of (all_raw heads lengths) tile_names ≡ map (λ (t : ℕ). (raw_of heads lengths t).head) (0 ∷ 1 ∷ 2 ∷ 3 ∷ [])
all_heads heads lengths = refl

-- the name of their mosaic is none of their files
all_apart : (heads : ℕ → Head) (lengths : ℕ → ℕ) → unless_own (all_raw heads lengths) inner_name ≡ Ok tt
unfolding extension_of ending_of last_part extension_of_ending header_of
all_apart heads lengths = refl

names_are : (m : Files) → names_in m tile_names None ≡ Ok tile_names
unfolding names_in
names_are m = refl

-- a mosaic whose inputs are walked
built_of_walked : (cat : List Dataset) (heads : List DatasetHead) (document : DocumentValue) → mosaic_of inner_options heads ≡ Ok (document, []) → unless_own cat inner_name ≡ Ok tt → built_of inner_options cat heads ≡ Ok (record { document = document; warnings = [] })
unfolding built_of
built_of_walked cat heads document made free =
    ap (λ (r : Result (DocumentValue × List Skipped) BuildFault). by_build r >>= λ made. (unless_own cat inner_name >>= λ free. Ok (record { document = made.0; warnings = warnings_of heads made.1 }))) made
    ∙ ap (λ (r : Result (Unit {0}) Fault). r >>= λ free. Ok (record { document = document; warnings = [] })) free

built_in_walked : (m : Files) (verify : Bool) (names : List (List ℕ)) (cat : List Dataset) (heads : List DatasetHead) (built : Built) → names_in m names None ≡ Ok names → walked_all m verify [] names ≡ Ok cat → heads_of cat names ≡ heads → built_of inner_options cat heads ≡ Ok built → built_in m verify names None inner_options ≡ Ok built
unfolding built_in
built_in_walked m verify names cat heads built given met told made =
    ap (λ (r : Result (List (List ℕ)) Fault). r >>= λ names. (walked_all m verify [] names >>= λ cat. built_of inner_options cat (heads_of cat names))) given
    ∙ ap (λ (r : Result (List Dataset) Fault). r >>= λ cat. built_of inner_options cat (heads_of cat names)) met
    ∙ ap (built_of inner_options cat) told
    ∙ made

-- the mosaic of the tiles is built
pub inner_is_built : (n : ℕ) → IsSide n → (m : Files) → TilesStand n m → mosaic_of inner_options (tile_heads n) ≡ Ok (inner_document n, []) → built_in m false tile_names None inner_options ≡ Ok (record { document = inner_document n; warnings = [] })
inner_is_built n side m stand made =
    let heads : ℕ → Head = tile_head n in
    let lengths : ℕ → ℕ = λ t. length (tile_data n t) in
    let read : AreRead m false heads lengths = record { each = λ t less. tile_reads n t side less m false stand } in
    built_in_walked m false tile_names (all_raw heads lengths) (tile_heads n) (record { document = inner_document n; warnings = [] }) (names_are m) (all_walked m false heads lengths read) (all_heads heads lengths)
    (built_of_walked (all_raw heads lengths) (tile_heads n) (inner_document n) made (all_apart heads lengths))
