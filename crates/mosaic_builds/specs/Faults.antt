-- The faults that the parts of the making of a mosaic may end with.
use Rattle.std.specs.Prelude.{◌≡◌, ◌⊎◌}
use Rattle.error_lines.specs.declared.faults.Fault.{Fault}
use Rattle.error_lines.specs.declared.faults.Fault.TheVariants.{Usage, Absent, NotRecognized, Malformed, Short, Cycle}
use Rattle.error_lines.specs.declared.faults.Fault.TheVariants.{TooDeep, Limit, SourceBand, Plan, Build, SameName}
use Rattle.error_lines.specs.declared.faults.Fault.TheVariants.{BadPoint, Changed, FolderFault, InputFault, OutFault}
use Rattle.error_lines.specs.declared.faults.Fault.TheVariants.{Memory}

-- those of the names of its inputs
abbrev pub IsOfNames : Fault → Type 0
IsOfNames (Usage n) = ⊥
IsOfNames (Absent name) = ⊥
IsOfNames (NotRecognized name) = ⊥
IsOfNames (Malformed name b) = ⊥
IsOfNames (Short name needed has) = ⊥
IsOfNames (Cycle name) = ⊥
IsOfNames (TooDeep name) = ⊥
IsOfNames (Limit what value) = Unit {0}
IsOfNames (SourceBand name band) = ⊥
IsOfNames (Plan fault) = ⊥
IsOfNames (Build fault) = ⊥
IsOfNames (SameName name) = ⊥
IsOfNames (BadPoint line) = ⊥
IsOfNames (Changed name was now) = ⊥
IsOfNames FolderFault = ⊥
IsOfNames InputFault = ⊥
IsOfNames OutFault = ⊥
IsOfNames Memory = Unit {0}

-- only a call of the outside failed, or memory was refused
abbrev pub IsOfWriting : Fault → Type 0
IsOfWriting fault = (fault ≡ FolderFault) ⊎ ((fault ≡ OutFault) ⊎ (fault ≡ Memory))
