-- How far files were published.
use Rattle.std.specs.Prelude.{ℕ, ◌≡◌, List, ◌++◌, Option, Some, Result, Ok, Err}
use Rattle.outside.specs.Outside.{Files}
use Rattle.error_lines.specs.declared.faults.Fault.{Fault}
use Rattle.error_lines.specs.Steps.{applied}

-- Over the files of a map these were published, the first of them first: all of them, or where the call is refused some
-- of the first.
abbrev pub ArePublished : List (List ℕ × List ℕ) → Files → Result (Unit {0}) Fault → Option Files → Type 0
ArePublished files m (Ok done) names = names ≡ Some (applied files m)
ArePublished files m (Err fault) names = (first : List (List ℕ × List ℕ)) ×
    ((rest : List (List ℕ × List ℕ)) × (first ++ rest ≡ files) × (names ≡ Some (applied first m)))
