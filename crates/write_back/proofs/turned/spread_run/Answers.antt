use Rattle.std.proofs.Common.{get_or, pos, rules, arith}
use Rattle.std.specs.Int.{w128}
use mir.Val.{SFits}
use Rattle.std.proofs.lemmas.Int.{to_z-of_z}
use Rattle.std.proofs.lemmas.Nat.{mul-add-lt}
use Rattle.write_back.proofs.Transposed.{run_more}
use Rattle.write_back.proofs.turned.spread_run.Goals as goal

pub loop-i-preserved : goal.loop-i-preserved
loop-i-preserved c =
    let fits : SFits w128 (get_or c.args.run.now c.loop-i.i (pos 0)) = search rules in
    let start = c.requires.start in
    let test = c.loop-i-test.true in
    let room = c.requires.room in
    let long = c.loop-i.auto.out in
    let less = mul-add-lt c.loop-i.i c.args.stride c.args.start _ test start in
    run_more c.args.run.now c.args.out.now c.loop-i.out c.loop-i.i c.args.start c.args.stride _ (omega arith) (omega arith) (to_z-of_z w128 (get_or c.args.run.now c.loop-i.i (pos 0)) fits) c.loop-i.invariant
