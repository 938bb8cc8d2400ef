-- The numbers and the places of the faults of a grid.
use Rattle.std.specs.Prelude.{◌≡◌, ℕ, Option, Some, None}
use Rattle.ascii_grid.specs.declared.faults.GridFault.{GridFault}
use Rattle.ascii_grid.specs.declared.faults.GridFault.TheVariants.{MissingKey, BadToken, NotInteger, TooFew, TooMany}
use Rattle.ascii_grid.specs.declared.faults.GridFault.TheVariants.{Limit, Memory}

-- the number that error lines print, 0 for want of memory
abbrev pub fault_number : GridFault → ℕ
fault_number MissingKey = 1
fault_number (BadToken place) = 2
fault_number (NotInteger place) = 3
fault_number TooFew = 4
fault_number (TooMany place) = 5
fault_number Limit = 6
fault_number Memory = 0

-- the place of the token that is refused
abbrev pub fault_place : GridFault → Option ℕ
fault_place MissingKey = None
fault_place (BadToken place) = Some place
fault_place (NotInteger place) = Some place
fault_place TooFew = None
fault_place (TooMany place) = Some place
fault_place Limit = None
fault_place Memory = None

abbrev pub IsMemory : GridFault → Type 0
IsMemory fault = fault ≡ Memory
