-- The answers that no definition gives.
use Rattle.std.specs.Prelude.{◌≡◌}
use Rattle.catalog.specs.declared.faults.WalkFault.{WalkFault}
use Rattle.catalog.specs.declared.faults.WalkFault.TheVariants.{Absent, NotRecognized, Malformed, Short, Cycle, TooDeep}
use Rattle.catalog.specs.declared.faults.WalkFault.TheVariants.{Limit, SourceBand, FolderFault, Memory}

-- a call of the folder failed, or memory was refused
abbrev pub IsOutside : WalkFault → Type 0
IsOutside (Absent name) = ⊥
IsOutside (NotRecognized name) = ⊥
IsOutside (Malformed name bad) = ⊥
IsOutside (Short name needed has) = ⊥
IsOutside (Cycle name) = ⊥
IsOutside (TooDeep name) = ⊥
IsOutside (Limit what value) = ⊥
IsOutside (SourceBand name band) = ⊥
IsOutside FolderFault = Unit {0}
IsOutside Memory = Unit {0}

-- memory was refused
abbrev pub IsMemory : WalkFault → Type 0
IsMemory fault = fault ≡ Memory
