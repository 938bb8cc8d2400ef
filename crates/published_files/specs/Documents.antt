-- How the publishing of a document may end.
use Rattle.std.specs.Prelude.{◌≡◌, ◌⊎◌}
use Rattle.error_lines.specs.declared.faults.Fault.{Fault}
use Rattle.error_lines.specs.declared.faults.Fault.TheVariants.{FolderFault, Memory}

-- a call of the folder failed, or memory was refused
abbrev pub IsOfFolder : Fault → Type 0
IsOfFolder fault = (fault ≡ FolderFault) ⊎ (fault ≡ Memory)
