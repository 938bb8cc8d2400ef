use Rattle.std.proofs.Common.{◌≡◌, ◌+◌, ◌*◌, ◌≤◌, ℕ, arith}
use Rattle.std.proofs.Math.Nat.{mul-le-mul}
use Rattle.output_copies.proofs.portion.portion_of.Goals as goal

next_rows : (at rows : ℕ) → (at + 1) * rows ≡ at * rows + rows
next_rows at rows = grind arith

few_rows : (at rows most : ℕ) → at ≤ most → rows ≤ 4294967295 → at * rows ≤ most * 4294967295
few_rows at rows most few low = mul-le-mul few low

pub overflow_mul-share : goal.overflow_mul-share
overflow_mul-share c = let less = few_rows c.args.at c.args.rows 16 (omega (arith, c.requires.few)) (omega arith) in record { fits = omega (arith, less) }

pub overflow_add-before : goal.overflow_add-before
overflow_add-before c = let less = few_rows c.args.at c.args.rows 16 (omega (arith, c.requires.few)) (omega arith) in record { fits = omega (arith, less) }

pub overflow_add-after : goal.overflow_add-after
overflow_add-after c = let less = few_rows c.args.at c.args.rows 16 (omega (arith, c.requires.few)) (omega arith) in record { fits = omega (arith, less) }

pub returns-clause-end : goal.returns-clause-end
returns-clause-end c = let e = next_rows c.args.at c.args.rows in omega (arith, e, c.min-top.ensures, c.min-end.ensures)
