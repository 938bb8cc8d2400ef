-- What is told of a translation while its lines are copied, and how that may end.
use Rattle.std.specs.Prelude.{ℕ, ◌≡◌, Bool, true, false, List, [], Option, Some, Result, Ok, Err, IfErr}
use Rattle.outside.specs.Outside.{Files}
use Rattle.outside.specs.Streams.{Gets, GetsPart}
use Rattle.catalog.specs.Drivers.{Dataset}
use Rattle.band_blocks.specs.declared.fault.LoadFault.TheVariants as load
use Rattle.nearest_window.specs.Right.{TellsChangeIn}
use Rattle.error_lines.specs.declared.faults.Fault.{Fault}
use Rattle.error_lines.specs.declared.faults.Fault.TheVariants.{Changed}
use Rattle.error_lines.specs.Faults.{Differs, HasCauses, IsOfReading, IsOutside}

-- what is put of a text, but for a quiet translation
abbrev pub spoken : Bool → List ℕ → List ℕ
spoken true told = []
spoken false told = told

-- a text was put, or where a fault is answered a first part of it
abbrev pub Puts : {T : Type 0} → List ℕ → Result T Fault → Option (List ℕ) → Option (List ℕ) → Type 0
Puts text (Ok done) before after = Gets text before after
Puts text (Err fault) before after = GetsPart text before after

-- the fault says that a file changed
abbrev pub IsChanged : Fault → Type 0
IsChanged (Changed name was now) = Unit {0}
IsChanged fault = ⊥

-- where it does, the file is that of a dataset of the catalog, and the fault says its name, the length that the walk
-- found, and another length or none
abbrev pub TellsChange : List Dataset → Fault → Type 0
TellsChange cat (Changed name was now) = TellsChangeIn cat (load.Changed name was now)
TellsChange cat fault = Unit {0}

-- How a part of a translation may end: the counts of the folder and of the output rose where their faults are answered,
-- and where the folder tells its files, what is answered is a fault of the outside.
pub record MayEnd {T : Type 0} (told : Option Files) (folder folder_now out out_now : ℕ) (result : Result T Fault)
    : Type 0 where
  pub cause : HasCauses folder folder_now out out_now result
  pub reading : IfErr result IsOfReading
  pub differs : Differs result
  pub never : (m : Files) → told ≡ Some m → IfErr result IsOutside
