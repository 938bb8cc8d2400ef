-- What the making of a mosaic does, a step at a time.
use Rattle.std.specs.Prelude.{ℕ, Bool, true, false, List, [], ◌∷◌, ◌++◌, map, Result, Ok, Err}
use Rattle.vrt_writing.specs.Spelled.{spelled}
use Rattle.vrt_profile.specs.Values.{DocumentValue}
use Rattle.error_lines.specs.declared.faults.Fault.{Fault}
use Rattle.error_lines.specs.Progress.{progress, progress_end}
use Rattle.error_lines.specs.Steps.{Step, Done, Prints, Warns, Publishes, all_done, refused}
use Rattle.mosaic_builds.specs.Built.{Built}

-- what is told when all is done
abbrev pub progress_line : List ℕ
progress_line = progress ++ progress_end

-- the progress line is printed, but for a quiet run
abbrev pub progress_steps : Bool → List Step
progress_steps true = []
progress_steps false = Prints progress_line ∷ []

-- a document under a name, and then the line
abbrev pub publishing_steps : Bool → List ℕ → DocumentValue → List Step
publishing_steps quiet name document = Publishes name (spelled document) ∷ progress_steps quiet

-- warnings, one after another
abbrev pub warns : List (List ℕ) → List Step
warns lines = map (λ (line : List ℕ). Warns line) lines

-- a mosaic under a name: its warnings come first
abbrev pub mosaic_steps : Bool → List ℕ → Built → List Step
mosaic_steps quiet name built = warns built.warnings ++ publishing_steps quiet name built.document

-- what is built is published, and what is refused ends the run
abbrev pub mosaic_done : Bool → List ℕ → Result Built Fault → Done
mosaic_done quiet name (Ok built) = all_done (mosaic_steps quiet name built)
mosaic_done quiet name (Err fault) = refused fault
