use Rattle.std.proofs.Common.{◌≡◌, ◌≤◌, ◌*◌, ◌∙◌, ap, arith}
use Rattle.std.specs.Int.{div_ceil}
use Rattle.std.proofs.Math.Nat.{mul-le-mul}
use Rattle.strip_copies.proofs.Shared.{ceil_least, ceil_some, each_of_all}
use Rattle.strip_copies.proofs.portions.rows_of.Goals as goal

pub overflow_cast-result : goal.overflow_cast-result
overflow_cast-result c =
    let turns = c.turns_of-turns.result in
    let parts = turns * c.args.workers in
    let some : 1 * 1 ≤ parts = mul-le-mul c.turns_of-turns.ensures.some c.requires.workers in
    let turned : turns * (c.args.most * c.args.workers) ≡ c.args.most * parts = each_of_all turns c.args.most c.args.workers in
    let all = c.turns_of-turns.ensures.all in
    let few = ceil_least c.args.extent parts c.args.most (omega arith) (omega arith) in
    let is = c.div_ceil-rows.ensures in
    omega arith

pub returns : goal.returns
returns c =
    let turns = c.turns_of-turns.result in
    let parts = turns * c.args.workers in
    let some : 1 * 1 ≤ parts = mul-le-mul c.turns_of-turns.ensures.some c.requires.workers in
    let turned : turns * (c.args.most * c.args.workers) ≡ c.args.most * parts = each_of_all turns c.args.most c.args.workers in
    let all = c.turns_of-turns.ensures.all in
    let is = c.div_ceil-rows.ensures in
    record {
      rows = is ∙ ap (λ n. div_ceil c.args.extent (n * c.args.workers)) c.turns_of-turns.ensures.turns;
      some = (let least = ceil_some c.args.extent parts c.requires.some (omega arith) in omega arith);
      few = (let few = ceil_least c.args.extent parts c.args.most (omega arith) (omega arith) in omega arith);
    }
