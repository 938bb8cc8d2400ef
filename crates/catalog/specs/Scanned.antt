-- What a scanner was fed of an open file.
use Rattle.std.specs.Prelude.{◌≡◌, ◌⊎◌, ℕ, List, length, take, Option, Some, Err}
use Rattle.ascii_grid.specs.declared.faults.GridFault.TheVariants as grid
use Rattle.ascii_grid.specs.Grid.{grid_head}
use Rattle.ascii_grid.specs.Scan.{Scanned, Reads}
use Rattle.catalog.specs.declared.grid.ScanFault.{ScanFault}
use Rattle.catalog.specs.declared.grid.ScanFault.TheVariants.{Failed, Refused}

-- a scanner was fed as many bytes as stand before a place, and where the file's bytes are told, those
pub record HasFed (s : Scanned) (bytes : Option (List ℕ)) (at : ℕ) : Type 0 where
  pub text : List ℕ
  pub long : length text ≡ at
  pub reads : Reads s text
  pub told : (b : List ℕ) → bytes ≡ Some b → text ≡ take at b

-- a scan was refused for want of memory, by a call of the folder, or as the bytes are
abbrev pub IsScanFault : List ℕ → ScanFault → Type 0
IsScanFault b Failed = Unit {0}
IsScanFault b (Refused fault) = (fault ≡ grid.Memory) ⊎ (grid_head b ≡ Err fault)
