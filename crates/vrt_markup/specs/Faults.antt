-- The numbers and the places of the faults of a VRT document.
use Rattle.std.specs.Prelude.{◌≡◌, ℕ, Option, Some, None}
use Rattle.vrt_markup.specs.declared.fault.VrtFault.{VrtFault}
use Rattle.vrt_markup.specs.declared.fault.VrtFault.TheVariants.{BadText, UnknownElement, MissingPart, BadNumber}
use Rattle.vrt_markup.specs.declared.fault.VrtFault.TheVariants.{Unsupported, Limit, Memory}

-- the number that error lines print; want of memory has none, and is 0
abbrev pub fault_number : VrtFault → ℕ
fault_number (BadText place) = 1
fault_number (UnknownElement place) = 2
fault_number MissingPart = 3
fault_number BadNumber = 4
fault_number Unsupported = 5
fault_number Limit = 6
fault_number Memory = 0

-- the place that error lines print
abbrev pub fault_place : VrtFault → Option ℕ
fault_place (BadText place) = Some place
fault_place (UnknownElement place) = Some place
fault_place MissingPart = None
fault_place BadNumber = None
fault_place Unsupported = None
fault_place Limit = None
fault_place Memory = None

-- want of memory, which no document causes
abbrev pub IsMemory : VrtFault → Type 0
IsMemory fault = fault ≡ Memory
