-- How the making of a mosaic may end over every folder.
use Rattle.std.specs.Prelude.{ℕ, ◌≡◌, List, Err}
use Rattle.catalog.specs.Heads.{kind_in, IsOwnFault}
use Rattle.catalog.specs.declared.faults.WalkFault.TheVariants as walk
use Rattle.buildvrt.specs.declared.faults.BuildFault.TheVariants as build
use Rattle.error_lines.specs.declared.faults.Fault.{Fault}
use Rattle.error_lines.specs.declared.faults.Fault.TheVariants.{Usage, Absent, NotRecognized, Malformed, Short, Cycle}
use Rattle.error_lines.specs.declared.faults.Fault.TheVariants.{TooDeep, Limit, SourceBand, Plan, Build, SameName}
use Rattle.error_lines.specs.declared.faults.Fault.TheVariants.{BadPoint, Changed, FolderFault, InputFault, OutFault}
use Rattle.error_lines.specs.declared.faults.Fault.TheVariants.{Memory}

-- The faults that the making of a mosaic of this name may end with, before it is published. A name that isn't
-- recognized tells no kind, want of memory is never told as what is wrong with a file or with the inputs, and SameName
-- has the mosaic's name.
abbrev pub IsOfMaking : List ℕ → Fault → Type 0
IsOfMaking out (Usage n) = ⊥
IsOfMaking out (Absent name) = Unit {0}
IsOfMaking out (NotRecognized name) = kind_in name ≡ Err (walk.NotRecognized name)
IsOfMaking out (Malformed name b) = IsOwnFault b
IsOfMaking out (Short name needed has) = Unit {0}
IsOfMaking out (Cycle name) = Unit {0}
IsOfMaking out (TooDeep name) = Unit {0}
IsOfMaking out (Limit what value) = Unit {0}
IsOfMaking out (SourceBand name band) = Unit {0}
IsOfMaking out (Plan fault) = ⊥
IsOfMaking out (Build fault) = fault ≡ build.Memory → ⊥
IsOfMaking out (SameName name) = name ≡ out
IsOfMaking out (BadPoint line) = ⊥
IsOfMaking out (Changed name was now) = ⊥
IsOfMaking out FolderFault = Unit {0}
IsOfMaking out InputFault = ⊥
IsOfMaking out OutFault = ⊥
IsOfMaking out Memory = Unit {0}

-- The same, and a fault of the output: what a mosaic may end with.
abbrev pub MayEnd : List ℕ → Fault → Type 0
MayEnd out (Usage n) = ⊥
MayEnd out (Absent name) = Unit {0}
MayEnd out (NotRecognized name) = kind_in name ≡ Err (walk.NotRecognized name)
MayEnd out (Malformed name b) = IsOwnFault b
MayEnd out (Short name needed has) = Unit {0}
MayEnd out (Cycle name) = Unit {0}
MayEnd out (TooDeep name) = Unit {0}
MayEnd out (Limit what value) = Unit {0}
MayEnd out (SourceBand name band) = Unit {0}
MayEnd out (Plan fault) = ⊥
MayEnd out (Build fault) = fault ≡ build.Memory → ⊥
MayEnd out (SameName name) = name ≡ out
MayEnd out (BadPoint line) = ⊥
MayEnd out (Changed name was now) = ⊥
MayEnd out FolderFault = Unit {0}
MayEnd out InputFault = ⊥
MayEnd out OutFault = Unit {0}
MayEnd out Memory = Unit {0}

-- those of the mosaic of walked inputs
abbrev pub IsOfBuilding : List ℕ → Fault → Type 0
IsOfBuilding out (Usage n) = ⊥
IsOfBuilding out (Absent name) = ⊥
IsOfBuilding out (NotRecognized name) = ⊥
IsOfBuilding out (Malformed name b) = ⊥
IsOfBuilding out (Short name needed has) = ⊥
IsOfBuilding out (Cycle name) = ⊥
IsOfBuilding out (TooDeep name) = ⊥
IsOfBuilding out (Limit what value) = ⊥
IsOfBuilding out (SourceBand name band) = ⊥
IsOfBuilding out (Plan fault) = ⊥
IsOfBuilding out (Build fault) = fault ≡ build.Memory → ⊥
IsOfBuilding out (SameName name) = name ≡ out
IsOfBuilding out (BadPoint line) = ⊥
IsOfBuilding out (Changed name was now) = ⊥
IsOfBuilding out FolderFault = ⊥
IsOfBuilding out InputFault = ⊥
IsOfBuilding out OutFault = ⊥
IsOfBuilding out Memory = Unit {0}
