use Rattle.std.proofs.Common.{◌≡◌, ℕ, suc, ◌+◌, ◌*◌, ◌<◌, ◌≤◌, arith}
use Rattle.std.proofs.Math.Nat.{mul-le-mul_right}
use Rattle.write_back.proofs.tiles.line_at.Goals as goal

line_within : (side y : ℕ) → y < side → 2 * (y * side) + 2 * side ≤ 2 * (side * side)
line_within side y below =
    let big : suc y * side ≤ side * side = mul-le-mul_right side below in
    let e : suc y * side ≡ y * side + side = grind arith in
    omega arith

pub returns-clause-within : goal.returns-clause-within
returns-clause-within c = line_within c.args.side c.args.y c.requires.line
