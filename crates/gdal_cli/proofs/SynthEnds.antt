-- How the run from a number ends.
use Rattle.std.proofs.Common.{◌≡◌, refl, subst, true, false, ℕ, List, [], ◌∷◌, ◌++◌, flat_map, Result, Ok, Err, Option, Some, None}
use Rattle.std.specs.Prelude.{IfErr}
use Rattle.std.specs.List.{range_with_len}
use Rattle.outside.specs.Outside.{Files}
use Rattle.catalog.specs.Drivers.{Dataset}
use Rattle.vrt_writing.specs.Spelled.{spelled}
use Rattle.buildvrt.specs.declared.faults.BuildFault.TheVariants as build
use Rattle.command_words.specs.declared.command.Job.TheVariants as job
use Rattle.error_lines.specs.declared.faults.Fault.{Fault}
use Rattle.error_lines.specs.declared.faults.Fault.TheVariants.{Usage, Absent, NotRecognized, Malformed, Short, Cycle, TooDeep, Limit, SourceBand, Plan, Build, SameName, BadPoint, Changed, FolderFault, InputFault, OutFault, Memory}
use Rattle.error_lines.specs.Faults.{OwnsFault}
use Rattle.error_lines.specs.Steps.{Step, Done, warned}
use Rattle.error_lines.proofs.Silent.{both_silent, prints_silent, publishes_silent}
use Rattle.mosaic_builds.specs.Built.{Built, built_in}
use Rattle.mosaic_builds.proofs.Going.{publishing_silent}
use Rattle.synthetic_rasters.specs.Names.{tile_name, tile_names, inner_name, outer_name, output_name}
use Rattle.synthetic_rasters.specs.Outer.{outer_document}
use Rattle.synthetic_rasters.specs.Tally.{tally_of, tally_text}
use Rattle.synthetic_rasters.specs.Tiles.{tiles_files}
use Rattle.synth_runs.specs.Ends as synth
use Rattle.synth_runs.specs.Ends.{raster_names}
use Rattle.synth_runs.specs.Runs.{then_run, followed, tiles_run, inner_options, inner_done, inner_run, outer_run, output_options, output_run, copied, samples_of, tally_done, tally_run, copy_run, outer_runs, mosaic_runs, synth_run}
use Rattle.translation_runs.specs.Ends.{ended}
use Rattle.translation_runs.proofs.Ended.{refused_so}
use Rattle.translation_runs.proofs.Silent.{run_silent}
use Rattle.gdal_cli.specs.Run.{MayEnd, makes_rasters, names_published}
use Rattle.gdal_cli.specs.Jobs.{RefusesOnly}

-- runs one behind the other warn of nothing where each doesn't
followed_silent : (steps : List Step) (fault : Option Fault) (next : Done) → warned steps ≡ [] → warned next.steps ≡ [] → warned (followed steps fault next).steps ≡ []
followed_silent steps None next first then = both_silent steps next.steps first then
followed_silent steps (Some f) next first then = first

then_silent : (m : Files) (first : Done) (next : Files → Done) → warned first.steps ≡ [] → ((n : Files) → warned (next n).steps ≡ []) → warned (then_run m first next).steps ≡ []
unfolding then_run
then_silent m first next now later = followed_silent first.steps first.fault _ now (later _)

inner_silent : (r : Result Built Fault) → warned (inner_done r).steps ≡ []
inner_silent (Ok built) = publishing_silent true inner_name built.document
inner_silent (Err f) = refl

tally_silent : (m : Files) (r : Result Dataset Fault) → warned (tally_done m r).steps ≡ []
tally_silent m (Ok d) = prints_silent (tally_text d.head.size (tally_of (samples_of m d)) ∷ [])
tally_silent m (Err f) = refl

copy_silent : (m : Files) → warned (copy_run m).steps ≡ []
copy_silent m = then_silent m (output_run m) tally_run (run_silent m false outer_name output_options true) (λ n. tally_silent n (copied n))

outer_silent : (side : ℕ) (m : Files) → warned (outer_runs side m).steps ≡ []
outer_silent side m = then_silent m (outer_run side) copy_run (publishes_silent ((outer_name, spelled (outer_document side)) ∷ [])) copy_silent

mosaic_silent : (side : ℕ) (m : Files) → warned (mosaic_runs side m).steps ≡ []
mosaic_silent side m = then_silent m (inner_run m) (outer_runs side) (inner_silent (built_in m false tile_names None inner_options)) (outer_silent side)

-- the run from a number warns of nothing
pub synth_silent : (side : ℕ) (m : Files) → warned (synth_run side m).steps ≡ []
synth_silent side m = then_silent m (tiles_run side) (mosaic_runs side) (publishes_silent (tiles_files side)) (mosaic_silent side)

-- it publishes a name
some_behind : (xs ys : List (List ℕ)) (y : List ℕ) → xs ++ y ∷ ys ≡ [] → ⊥
some_behind [] ys y is = cc
some_behind (x ∷ xs) ys y is = cc

pub synth_made : (side : ℕ) → names_published (job.Synth side) ≡ [] → ⊥
synth_made side is = some_behind (flat_map (λ t. raster_names (tile_name t)) (range_with_len 0 4)) (outer_name ∷ raster_names output_name) inner_name is

-- it is the one that makes rasters
pub no_rasters : (side : ℕ) → makes_rasters (job.Synth side) ≡ false → ⊥
no_rasters side is = cc

pub none_made : false ≡ true → ⊥
none_made is = cc

-- what it may end with, as the job may
fault_may : (side : ℕ) (f : Fault) → synth.MayEnd f → MayEnd (job.Synth side) f
fault_may side (Usage n) h = h
fault_may side (Absent name) h = tt
fault_may side (NotRecognized name) h = tt
fault_may side (Malformed name bad) h = tt
fault_may side (Short name needed has) h = tt
fault_may side (Cycle name) h = tt
fault_may side (TooDeep name) h = tt
fault_may side (Limit what value) h = tt
fault_may side (SourceBand name band) h = tt
fault_may side (Plan why) h = refl
fault_may side (Build why) h = refl
fault_may side (SameName name) h = h
fault_may side (BadPoint line) h = absurd h
fault_may side (Changed name was now) h = refl
fault_may side FolderFault h = tt
fault_may side InputFault h = absurd h
fault_may side OutFault h = tt
fault_may side Memory h = tt

pub synth_may : (side : ℕ) (r : Result (Unit {0}) Fault) → IfErr r synth.MayEnd → IfErr r (MayEnd (job.Synth side))
synth_may side (Ok done) h = tt
synth_may side (Err f) h = fault_may side f h

-- a fault that it ended with
at_fault : (r : Result (Unit {0}) Fault) (f : Fault) → r ≡ Err f → IfErr r synth.MayEnd → synth.MayEnd f
at_fault r f is h = subst (λ (e : Result (Unit {0}) Fault). IfErr e synth.MayEnd) is h

module _ (r : Result (Unit {0}) Fault) (h : IfErr r synth.MayEnd) where
  pub synth_refuses : RefusesOnly r
  synth_refuses = record {
    only = λ n is. at_fault r (NotRecognized n) is h;
    no_usage = λ n is. at_fault r (Usage n) is h;
  }

  pub synth_owns : OwnsFault (ended r)
  synth_owns = record {
    malformed = λ name bad is. at_fault r (Malformed name bad) (refused_so r (Malformed name bad) is) h;
    build = λ is. at_fault r (Build build.Memory) (refused_so r (Build build.Memory) is) h refl;
  }

  pub synth_reads_no_input : r ≡ Err InputFault → ⊥
  synth_reads_no_input is = at_fault r InputFault is h
