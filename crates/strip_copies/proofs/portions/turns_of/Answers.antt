use Rattle.std.proofs.Common.{◌≤◌, ◌*◌, sym, subst, arith}
use Rattle.std.proofs.Math.Nat.{mul-le-mul}
use Rattle.strip_copies.proofs.Shared.{ceil_covers, ceil_few, ceil_some}
use Rattle.strip_copies.proofs.portions.turns_of.Goals as goal

pub overflow_cast-result : goal.overflow_cast-result
overflow_cast-result c =
    let all = c.args.most * c.args.workers in
    let some : 1 * 1 ≤ all = mul-le-mul c.requires.most c.requires.workers in
    let few = ceil_few c.args.extent all (omega arith) in
    let is = c.div_ceil-turns.ensures in
    omega arith

pub returns : goal.returns
returns c =
    let all = c.args.most * c.args.workers in
    let some : 1 * 1 ≤ all = mul-le-mul c.requires.most c.requires.workers in
    let is = c.div_ceil-turns.ensures in
    record {
      turns = is;
      some = (let least = ceil_some c.args.extent all c.requires.some (omega arith) in omega arith);
      all = subst (λ n. c.args.extent ≤ n * all) (sym is) (ceil_covers c.args.extent all (omega arith));
      few = (let few = ceil_few c.args.extent all (omega arith) in omega arith);
    }
