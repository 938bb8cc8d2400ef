-- The work that a command line asks for: how its files are judged, and what is done then.
use Rattle.std.specs.Prelude.{ℕ, ℤ, Bool, false, List, [], ◌∷◌, Option, Result, Ok, Err}
use Rattle.lists_and_answers.specs.Answers.{◌>>=◌}
use Rattle.outside.specs.Outside.{Files}
use Rattle.catalog.specs.Dataset.{DatasetHead}
use Rattle.catalog.specs.Drivers.{Dataset}
use Rattle.catalog.specs.Heads.{head_in, dataset_in}
use Rattle.catalog.specs.Walk.{walked}
use Rattle.info_report.specs.Report.{info_text}
use Rattle.input_points.specs.declared.entry.Entry.{Entry}
use Rattle.input_points.specs.Entries.{entries}
use Rattle.location_report.specs.declared.report.Form.{Form}
use Rattle.translate_plan.specs.Options.{Options}
use Rattle.buildvrt.specs.Options as buildvrt
use Rattle.translate_plan.specs.Plan.{Planned}
use Rattle.output_copies.specs.Steps.{translation_steps}
use Rattle.mosaic_builds.specs.Built.{Built, built_in}
use Rattle.mosaic_builds.specs.Steps.{mosaic_steps}
use Rattle.error_lines.specs.declared.faults.Fault.{Fault}
use Rattle.error_lines.specs.Faults.{by_walk}
use Rattle.gdal_cli.specs.declared.asked.Asked.{Asked}
use Rattle.command_words.specs.declared.command.Job.{Job}
use Rattle.command_words.specs.declared.command.Job.TheVariants.{Info, Locate, Translate, Build, Synth}
use Rattle.gdal_cli.specs.Faults.{by_words}
use Rattle.gdal_cli.specs.Location.{asked_in, answers, point_text}
use Rattle.error_lines.specs.Steps.{Done, all_done, refused, prints}
use Rattle.command_words.specs.Words.{words_of}
use Rattle.translation_runs.specs.Judged.{translation_judged}
use Rattle.synth_runs.specs.Runs.{synth_run}

-- Work whose files are judged: the report of a dataset, what is asked of a dataset of a catalog, in one point or in the
-- points of the input, the output of a dataset by a plan, or what is made of the inputs of a mosaic. These two stand
-- under a name, and nothing may be told of the work. Rasters from a number are judged part by part, as they are made.
pub data Work : Type 0 where
  Reports : DatasetHead → Work
  Tells : List Dataset → Dataset → Asked → Option (ℤ × ℤ) → Work
  Translates : Dataset → Planned → List ℕ → Bool → Work
  Builds : Built → List ℕ → Bool → Work
  Synthesizes : ℕ → Work

-- a report is judged by the head of its dataset
unfoldable pub info_judged : Files → Bool → List ℕ → Result Work Fault
info_judged m verify name = do
  head ← by_walk (head_in m verify name)
  Ok (Reports head)

-- the walk has verified what is to be, so the dataset is read again without
unfoldable pub location_judged : Files → Bool → List ℕ → Option (ℤ × ℤ) → List ℕ → Form → Bool → Result Work Fault
location_judged m verify name point bands form geoloc = do
  cat ← by_walk (walked m verify [] name)
  d ← by_walk (dataset_in m false name)
  asked ← asked_in form bands geoloc d.head
  Ok (Tells cat d asked point)

-- a translation is judged, and then its output has its name
unfoldable pub translate_judged : Files → Bool → List ℕ → Options → Bool → Result Work Fault
translate_judged m verify name options quiet = do
  t ← translation_judged m verify name options
  Ok (Translates t.dataset t.plan options.out quiet)

-- the inputs are walked, and the mosaic is made of their heads
unfoldable pub build_judged : Files → Bool → List (List ℕ) → Option (List ℕ) → buildvrt.Options → Bool →
    Result Work Fault
build_judged m verify inputs list options quiet = do
  built ← built_in m verify inputs list options
  Ok (Builds built options.out quiet)

-- what a job asks for over these files, as the function of its command judges it
abbrev pub judged_by : Job → Bool → Files → Result Work Fault
judged_by (Info name) verify m = info_judged m verify name
judged_by (Locate name point bands form geoloc) verify m = location_judged m verify name point bands form geoloc
judged_by (Translate src options quiet) verify m = translate_judged m verify src options quiet
judged_by (Build inputs list options quiet) verify m = build_judged m verify inputs list options quiet
judged_by (Synth side) verify m = Ok (Synthesizes side)

-- The work that these words ask for over these files, or the first refusal. It knows no output, no error stream and no
-- input.
unfoldable pub judged : List (List ℕ) → Files → Result Work Fault
judged words m = do
  command ← by_words (words_of words)
  judged_by command.job command.verify m

-- work is done over these files and these lines of an input
abbrev pub done : Work → Files → List Entry → Done
done (Reports head) m lines = all_done (prints (info_text head ∷ []))
done (Tells cat d asked point) m lines = answers (point_text m cat d asked) point lines
done (Translates d plan name quiet) m lines = all_done (translation_steps quiet m d plan name)
done (Builds built name quiet) m lines = all_done (mosaic_steps quiet name built)
done (Synthesizes side) m lines = synth_run side m

-- what is judged is done, and what is refused ends the run
abbrev pub carried_out : Result Work Fault → Files → List Entry → Done
carried_out (Ok work) m lines = done work m lines
carried_out (Err fault) m lines = refused fault

-- the run of these words over these files and these lines of an input: judged, then done
abbrev pub run_over : List (List ℕ) → Files → List Entry → Done
run_over words m lines = carried_out (judged words m) m lines

-- the run of these words over these files and this input
abbrev pub run_of : List (List ℕ) → Files → List ℕ → Done
run_of words m input = run_over words m (entries input)
