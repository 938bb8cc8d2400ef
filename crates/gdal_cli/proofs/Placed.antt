-- Numbers that are near enough to be placed.
use Rattle.std.proofs.Common.{ℤ, arith}
use Rattle.geotransform.specs.Decimal.{IsRead}
use Rattle.geotransform.specs.Geo.{IsNear}

-- a number that was read is below 10^12 units
pub read_near : (v : ℤ) → IsRead v → IsNear v
read_near v read = let near = read.near in omega arith
