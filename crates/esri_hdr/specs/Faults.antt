-- The numbers of the faults of a header.
use Rattle.std.specs.Prelude.{ℕ}
use Rattle.esri_hdr.specs.declared.header_parts.HdrFault.{HdrFault}
use Rattle.esri_hdr.specs.declared.header_parts.HdrFault.TheVariants.{MissingKey, BadValue, Unsupported, Limit}

-- the number that error lines print
abbrev pub fault_number : HdrFault → ℕ
fault_number MissingKey = 1
fault_number BadValue = 2
fault_number Unsupported = 3
fault_number Limit = 4
