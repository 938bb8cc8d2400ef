use Rattle.std.proofs.Common.{◌*◌, ◌≤◌, ℕ, arith}
use Rattle.std.proofs.Math.Nat.{mul-le-mul}
use Rattle.output_copies.proofs.portion.place_of.Goals as goal

few_places : (row bands : ℕ) → row ≤ 4294967295 → bands ≤ 4294967295 → row * bands ≤ 4294967295 * 4294967295
few_places row bands low few = mul-le-mul low few

pub overflow_add-place : goal.overflow_add-place
overflow_add-place c = let less = few_places c.args.row c.args.bands (omega arith) (omega arith) in record { fits = omega (arith, less, c.area-before.ensures.area) }
