-- Translations warn of nothing.
use Rattle.std.proofs.Common.{◌≡◌, refl, ℕ, Bool, true, false, List, [], ◌++◌, Result, Ok, Err}
use Rattle.outside.specs.Outside.{Files}
use Rattle.catalog.specs.Drivers.{Dataset}
use Rattle.translate_plan.specs.Options.{Options}
use Rattle.translate_plan.specs.Plan.{Planned}
use Rattle.error_lines.specs.Progress.{progress, progress_end}
use Rattle.output_copies.specs.Steps.{translation_steps, unless_quiet, size_line, written_files}
use Rattle.error_lines.specs.declared.faults.Fault.{Fault}
use Rattle.error_lines.specs.Steps.{publishes, warned}
use Rattle.error_lines.proofs.Silent.{both_silent, publishes_silent}
use Rattle.translation_runs.specs.Judged.{Judged, translation_done, translation_judged, translation_run}

quiet_silent : (quiet : Bool) (text : List ℕ) → warned (unless_quiet quiet text) ≡ []
quiet_silent true text = refl
quiet_silent false text = refl

pub translation_silent : (quiet : Bool) (m : Files) (d : Dataset) (p : Planned) (name : List ℕ) → warned (translation_steps quiet m d p name) ≡ []
unfolding translation_steps
translation_silent quiet m d p name =
    let size = unless_quiet quiet (size_line d.head.size) in
    let begin = unless_quiet quiet progress in
    let files = written_files m d p name in
    let end = unless_quiet quiet progress_end in
    both_silent size (begin ++ (publishes files ++ end)) (quiet_silent quiet (size_line d.head.size))
    (both_silent begin (publishes files ++ end) (quiet_silent quiet progress)
    (both_silent (publishes files) end (publishes_silent files) (quiet_silent quiet progress_end)))

done_silent : (m : Files) (out : List ℕ) (quiet : Bool) (r : Result Judged Fault) → warned (translation_done m out quiet r).steps ≡ []
done_silent m out quiet (Ok t) = translation_silent quiet m t.dataset t.plan out
done_silent m out quiet (Err f) = refl

pub run_silent : (m : Files) (verify : Bool) (name : List ℕ) (o : Options) (quiet : Bool) → warned (translation_run m verify name o quiet).steps ≡ []
run_silent m verify name o quiet = done_silent m o.out quiet (translation_judged m verify name o)
