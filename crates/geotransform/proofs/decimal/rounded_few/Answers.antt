use Rattle.std.proofs.Common.{arith}
use Rattle.std.proofs.Math.Nat.{one-le-pow}
use Rattle.geotransform.proofs.decimal.rounded_few.Goals as goal

pub nonzero_div-n : goal.nonzero_div-n
nonzero_div-n c = omega (arith, c.ten_to-ten.ensures, one-le-pow c.args.dropped 10 (omega arith))
