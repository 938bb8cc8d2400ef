-- What words ask for as NODATA.
use Rattle.std.specs.Prelude.{◌≤ℤ◌, ◌^◌, ◌-◌, pos, neg_ℤ}
use Rattle.catalog.specs.declared.nodata.NodataWord.{NodataWord}
use Rattle.catalog.specs.declared.nodata.NodataWord.TheVariants.{Absent, Remove, Number}

-- a number of a type of 64 bits, with or without a sign
abbrev pub IsNodataWord : NodataWord → Type 0
IsNodataWord Absent = Unit {0}
IsNodataWord Remove = Unit {0}
IsNodataWord (Number n) = (neg_ℤ (pos (2 ^ 63)) ≤ℤ n) × (n ≤ℤ pos (2 ^ 64 - 1))
