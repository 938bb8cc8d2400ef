-- A translation: how its files are judged, and what is done then.
use Rattle.std.specs.Prelude.{ℕ, Bool, false, List, [], Result, Ok, Err}
use Rattle.lists_and_answers.specs.Answers.{◌>>=◌}
use Rattle.outside.specs.Outside.{Files}
use Rattle.geotransform.specs.declared.faults.PlanFault.{PlanFault}
use Rattle.catalog.specs.Drivers.{Dataset}
use Rattle.catalog.specs.Heads.{dataset_in}
use Rattle.catalog.specs.Walk.{walked}
use Rattle.translate_plan.specs.Options.{Options}
use Rattle.translate_plan.specs.Plan.{Planned, plan_of}
use Rattle.output_copies.specs.Steps.{translation_steps}
use Rattle.published_files.specs.Names.{unless_read}
use Rattle.error_lines.specs.declared.faults.Fault.{Fault}
use Rattle.error_lines.specs.declared.faults.Fault.TheVariants.{Plan}
use Rattle.error_lines.specs.Faults.{by_walk}
use Rattle.error_lines.specs.Steps.{Done, all_done, refused}
use Rattle.translation_runs.specs.Published.{names_written}

-- what is planned, as the run's answer
abbrev pub by_plan : {T : Type 0} → Result T PlanFault → Result T Fault
by_plan (Ok x) = Ok x
by_plan (Err f) = Err (Plan f)

-- a translation whose files were judged: its dataset, and the plan of the output
pub record Judged : Type 0 where
  pub dataset : Dataset
  pub plan : Planned

-- the dataset is walked, its output is planned, and then none of the names that are published is read
unfoldable pub translation_judged : Files → Bool → List ℕ → Options → Result Judged Fault
translation_judged m verify name options = do
  cat ← by_walk (walked m verify [] name)
  d ← by_walk (dataset_in m false name)
  plan ← by_plan (plan_of options d.head)
  free ← unless_read cat (names_written options)
  Ok (record { dataset = d; plan = plan })

-- what is judged is done, and what is refused ends the run
abbrev pub translation_done : Files → List ℕ → Bool → Result Judged Fault → Done
translation_done m out quiet (Ok t) = all_done (translation_steps quiet m t.dataset t.plan out)
translation_done m out quiet (Err fault) = refused fault

-- the translation of the dataset of this name over these files
abbrev pub translation_run : Files → Bool → List ℕ → Options → Bool → Done
translation_run m verify name options quiet =
    translation_done m options.out quiet (translation_judged m verify name options)
