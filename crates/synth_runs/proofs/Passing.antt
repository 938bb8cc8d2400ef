-- The run from a number is refused by nothing where its mosaics are made and its copy is read.
use Rattle.std.proofs.Common.{◌≡◌, ◌∙◌, ap, sym, subst, refl, ℕ, zero, suc, ◌<◌, true, false, cond, List, [], ◌∷◌, Option, Some, None, Ok, Result, arith}
use Rattle.std.specs.Cmp.Lexicographic.{slice_cmp, nat_list_cmp_total}
use Rattle.std.specs.FinMap.{get, insert, get-insert}
use Rattle.std.specs.Ordering.{nat_cmp, eq_by_cmp}
use Rattle.outside.specs.Names.{header_of, ending_of, last_part}
use Rattle.outside.specs.Outside.{Files}
use Rattle.esri_hdr.specs.Text.{hdr_text}
use Rattle.vrt_writing.specs.Spelled.{spelled}
use Rattle.catalog.specs.Drivers.{Dataset}
use Rattle.buildvrt.specs.Mosaic.{mosaic_of}
use Rattle.error_lines.specs.declared.faults.Fault.{Fault}
use Rattle.error_lines.specs.Steps.{Step, Publishes, Done, all_done, published, publishes, applied}
use Rattle.mosaic_builds.specs.Built.{Built}
use Rattle.synthetic_rasters.specs.Names.{tile_name, inner_name, outer_name, output_name}
use Rattle.synthetic_rasters.specs.Outer.{outer_document}
use Rattle.synthetic_rasters.specs.Tiles.{IsSide, tile_head, tile_data, tiles_files}
use Rattle.translation_runs.specs.Judged.{Judged, translation_judged, translation_done}
use Rattle.synth_runs.specs.Runs.{followed, then_run, inner_options, output_options, tiles_run, inner_done, inner_run, outer_run, output_run, copied, tally_done, tally_run, copy_run, outer_runs, mosaic_runs, synth_run}
use Rattle.synth_runs.proofs.InnerBuilt.{inner_is_built}
use Rattle.synth_runs.proofs.Standing.{TilesStand, MosaicsStand, tile_heads, inner_document}

-- what a run needs of its parts, where the files before each part stand
pub record PartsPass (n : ℕ) : Type 0 where
  pub inner_is_made : mosaic_of inner_options (tile_heads n) ≡ Ok (inner_document n, [])
  pub copy_is_judged : (m : Files) → MosaicsStand n m → (t : Judged) × (translation_judged m false outer_name output_options ≡ Ok t)
  pub copy_is_read : (m : Files) → MosaicsStand n m → (d : Dataset) × (copied (applied (published (output_run m).steps) m) ≡ Ok d)

-- the bytes that files give a name, or what it had before
abbrev given : List (List ℕ × List ℕ) → List ℕ → Option (List ℕ) → Option (List ℕ)
given [] name before = before
given (file ∷ files) name before = given files name (cond (eq_by_cmp (slice_cmp nat_cmp) name file.0) (Some file.1) before)

get_applied : (files : List (List ℕ × List ℕ)) (m : Files) (name : List ℕ) → get (applied files m) name ≡ given files name (get m name)
get_applied [] m name = refl
get_applied (file ∷ files) m name = get_applied files (insert m file.0 file.1) name ∙ ap (given files name) (get-insert nat_list_cmp_total m file.0 file.1 name)

-- the files of the tiles give each of their names its bytes
tile_given : (n t : ℕ) → t < 4 → (before : Option (List ℕ)) → given (tiles_files n) (tile_name t) before ≡ Some (tile_data n t)
unfolding tiles_files header_of ending_of last_part
tile_given n zero less before = refl
tile_given n (suc zero) less before = refl
tile_given n (suc (suc zero)) less before = refl
tile_given n (suc (suc (suc zero))) less before = refl
tile_given n (suc (suc (suc (suc t)))) less before = absurd (omega (arith, less))

header_given : (n t : ℕ) → t < 4 → (before : Option (List ℕ)) → given (tiles_files n) (header_of (tile_name t)) before ≡ Some (hdr_text (tile_head n t))
unfolding tiles_files header_of ending_of last_part
header_given n zero less before = refl
header_given n (suc zero) less before = refl
header_given n (suc (suc zero)) less before = refl
header_given n (suc (suc (suc zero))) less before = refl
header_given n (suc (suc (suc (suc t)))) less before = absurd (omega (arith, less))

tiles_stand : (n : ℕ) (m : Files) → TilesStand n (applied (tiles_files n) m)
tiles_stand n m = record {
  samples = λ t less. get_applied (tiles_files n) m (tile_name t) ∙ tile_given n t less (get m (tile_name t));
  header = λ t less. get_applied (tiles_files n) m (header_of (tile_name t)) ∙ header_given n t less (get m (header_of (tile_name t)));
}

-- the two mosaics over the files of the tiles
abbrev with_mosaics : ℕ → Files → Files
with_mosaics n m = insert (insert m inner_name (spelled (inner_document n))) outer_name (spelled (outer_document n))

abbrev mosaic_files : ℕ → List (List ℕ × List ℕ)
mosaic_files n = (inner_name, spelled (inner_document n)) ∷ (outer_name, spelled (outer_document n)) ∷ []

tile_left : (n t : ℕ) → t < 4 → (before : Option (List ℕ)) → given (mosaic_files n) (tile_name t) before ≡ before
tile_left n zero less before = refl
tile_left n (suc zero) less before = refl
tile_left n (suc (suc zero)) less before = refl
tile_left n (suc (suc (suc zero))) less before = refl
tile_left n (suc (suc (suc (suc t)))) less before = absurd (omega (arith, less))

header_left : (n t : ℕ) → t < 4 → (before : Option (List ℕ)) → given (mosaic_files n) (header_of (tile_name t)) before ≡ before
unfolding header_of ending_of last_part
header_left n zero less before = refl
header_left n (suc zero) less before = refl
header_left n (suc (suc zero)) less before = refl
header_left n (suc (suc (suc zero))) less before = refl
header_left n (suc (suc (suc (suc t)))) less before = absurd (omega (arith, less))

mosaics_stand : (n : ℕ) (m : Files) → TilesStand n m → MosaicsStand n (with_mosaics n m)
mosaics_stand n m stand = record {
  tiles = record {
    samples = λ t less. get_applied (mosaic_files n) m (tile_name t) ∙ tile_left n t less (get m (tile_name t)) ∙ stand.samples t less;
    header = λ t less. get_applied (mosaic_files n) m (header_of (tile_name t)) ∙ header_left n t less (get m (header_of (tile_name t))) ∙ stand.header t less;
  };
  inner = get_applied (mosaic_files n) m inner_name;
  outer = get_applied (mosaic_files n) m outer_name;
}

-- a run that no part refuses
no_fault : (steps : List Step) (fault : Option Fault) (next : Done) → fault ≡ None → next.fault ≡ None → (followed steps fault next).fault ≡ None
no_fault steps fault next is after = ap (λ (f : Option Fault). (followed steps f next).fault) is ∙ after

then_passes : (m : Files) (first : Done) (next : Files → Done) → first.fault ≡ None → (next (applied (published first.steps) m)).fault ≡ None → (then_run m first next).fault ≡ None
unfolding then_run
then_passes m first next is after = no_fault first.steps first.fault (next (applied (published first.steps) m)) is after

published_of : (files : List (List ℕ × List ℕ)) → published (publishes files) ≡ files
published_of [] = refl
published_of (file ∷ files) = ap (λ (l : List (List ℕ × List ℕ)). file ∷ l) (published_of files)

-- the copy, and what is told of it
told_passes : (m : Files) (d : Dataset) → copied m ≡ Ok d → (tally_run m).fault ≡ None
told_passes m d is = ap (λ (r : Result Dataset Fault). (tally_done m r).fault) is

judged_passes : (m : Files) (t : Judged) → translation_judged m false outer_name output_options ≡ Ok t → (output_run m).fault ≡ None
judged_passes m t is = ap (λ (r : Result Judged Fault). (translation_done m output_name true r).fault) is

copy_passes : (n : ℕ) → PartsPass n → (m : Files) → MosaicsStand n m → (copy_run m).fault ≡ None
copy_passes n parts m stand =
    let judged = parts.copy_is_judged m stand in
    let read = parts.copy_is_read m stand in
    then_passes m (output_run m) tally_run (judged_passes m judged.0 judged.1) (told_passes (applied (published (output_run m).steps) m) read.0 read.1)

-- the mosaics
inner_is_run : (n : ℕ) → IsSide n → PartsPass n → (m : Files) → TilesStand n m → inner_run m ≡ all_done (Publishes inner_name (spelled (inner_document n)) ∷ [])
inner_is_run n side parts m stand = ap (λ (r : Result Built Fault). inner_done r) (inner_is_built n side m stand parts.inner_is_made)

outer_passes : (n : ℕ) → PartsPass n → (m : Files) → TilesStand n m → (outer_runs n (insert m inner_name (spelled (inner_document n)))).fault ≡ None
outer_passes n parts m stand = then_passes (insert m inner_name (spelled (inner_document n))) (outer_run n) copy_run refl (copy_passes n parts (with_mosaics n m) (mosaics_stand n m stand))

mosaics_pass : (n : ℕ) → IsSide n → PartsPass n → (m : Files) → TilesStand n m → (mosaic_runs n m).fault ≡ None
mosaics_pass n side parts m stand =
    ap (λ (r : Done). (then_run m r (outer_runs n)).fault) (inner_is_run n side parts m stand)
    ∙ then_passes m (all_done (Publishes inner_name (spelled (inner_document n)) ∷ [])) (outer_runs n) refl (outer_passes n parts m stand)

-- the whole run
pub parts_pass : (n : ℕ) → IsSide n → PartsPass n → (m : Files) → (synth_run n m).fault ≡ None
parts_pass n side parts m = then_passes m (tiles_run n) (mosaic_runs n) refl
    (mosaics_pass n side parts (applied (published (publishes (tiles_files n))) m)
    (subst (λ (files : List (List ℕ × List ℕ)). TilesStand n (applied files m)) (sym (published_of (tiles_files n))) (tiles_stand n m)))
