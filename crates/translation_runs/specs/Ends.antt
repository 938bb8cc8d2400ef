-- How a translation may end over every folder.
use Rattle.std.specs.Prelude.{ℕ, ◌≡◌, ◌⊎◌, Bool, Contains, List, Option, Some, None, Result, Ok, Err}
use Rattle.geotransform.specs.declared.types.Size.{Size}
use Rattle.catalog.specs.Heads.{kind_in, IsOwnFault}
use Rattle.catalog.specs.declared.kind.Kind.{Kind}
use Rattle.catalog.specs.declared.kind.Kind.TheVariants as kinds
use Rattle.catalog.specs.declared.faults.WalkFault.{WalkFault}
use Rattle.catalog.specs.declared.faults.WalkFault.TheVariants as walk
use Rattle.translate_plan.specs.Options.{Options}
use Rattle.error_lines.specs.declared.faults.Fault.{Fault}
use Rattle.error_lines.specs.declared.faults.Fault.TheVariants.{Usage, Absent, NotRecognized, Malformed, Short, Cycle}
use Rattle.error_lines.specs.declared.faults.Fault.TheVariants.{TooDeep, Limit, SourceBand, Plan, Build, SameName}
use Rattle.error_lines.specs.declared.faults.Fault.TheVariants.{BadPoint, Changed, FolderFault, InputFault, OutFault}
use Rattle.error_lines.specs.declared.faults.Fault.TheVariants.{Memory}
use Rattle.error_lines.specs.Faults.{fault_of}
use Rattle.output_copies.specs.Copying.{spoken, Puts}
use Rattle.output_copies.specs.Steps.{translation_text}
use Rattle.translation_runs.specs.Published.{names_written}

-- The faults that a translation may end with. A name that isn't recognized tells no kind, want of memory is never told
-- as what is wrong with a file, and SameName has a name that the translation publishes.
abbrev pub MayEnd : Options → Fault → Type 0
MayEnd o (Usage n) = ⊥
MayEnd o (Absent name) = Unit {0}
MayEnd o (NotRecognized name) = kind_in name ≡ Err (walk.NotRecognized name)
MayEnd o (Malformed name b) = IsOwnFault b
MayEnd o (Short name needed has) = Unit {0}
MayEnd o (Cycle name) = Unit {0}
MayEnd o (TooDeep name) = Unit {0}
MayEnd o (Limit what value) = Unit {0}
MayEnd o (SourceBand name band) = Unit {0}
MayEnd o (Plan fault) = Unit {0}
MayEnd o (Build fault) = ⊥
MayEnd o (SameName name) = Contains (names_written o) name
MayEnd o (BadPoint line) = ⊥
MayEnd o (Changed name was now) = Unit {0}
MayEnd o FolderFault = Unit {0}
MayEnd o InputFault = ⊥
MayEnd o OutFault = Unit {0}
MayEnd o Memory = Unit {0}

-- all that is told of a translation of a source of some size was put, but for a quiet one, or where a fault is answered
-- a first part of it
abbrev pub PutsTranslation : Bool → Result (Unit {0}) Fault → Option (List ℕ) → Option (List ℕ) → Type 0
PutsTranslation quiet result before after =
    (size : Size) × Puts (spoken quiet (translation_text size)) result before after

-- the fault that a call ended with, if there is one
abbrev pub ended : Result (Unit {0}) Fault → Option Fault
ended (Ok done) = None
ended (Err fault) = Some fault

-- A name that tells no kind is refused so, or for want of memory; where it tells another kind than a mosaic's, no name
-- is refused so.
pub record RefusesName (name : List ℕ) (result : Result (Unit {0}) Fault) : Type 0 where
  pub always : (f : WalkFault) → kind_in name ≡ Err f → (result ≡ Err (fault_of f)) ⊎ (result ≡ Err Memory)
  pub file : (k : Kind) (n : List ℕ) → kind_in name ≡ Ok k → (k ≡ kinds.Vrt → ⊥) → result ≡ Err (NotRecognized n) → ⊥
