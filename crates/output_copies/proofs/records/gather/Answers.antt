use Rattle.std.proofs.Common.{◌+◌, ◌*◌, get_or, pos, rules, arith}
use Rattle.std.specs.Int.{w128}
use mir.Val.{SFits}
use Rattle.std.proofs.lemmas.Int.{to_z-of_z}
use Rattle.output_copies.proofs.Fronts.{gather_more}
use Rattle.output_copies.proofs.records.gather.Goals as goal

pub loop-row-preserved : goal.loop-row-preserved
loop-row-preserved c =
    let fits : SFits w128 (get_or c.args.samples.now (c.loop-row.row * c.args.wide + c.args.at) (pos 0)) = search rules in
    let test = c.loop-row-test.true in
    let long = c.loop-row.auto.run in
    gather_more c.args.samples.now c.loop-row.run c.loop-row.row c.args.wide c.args.at _ (omega arith) (to_z-of_z w128 (get_or c.args.samples.now (c.loop-row.row * c.args.wide + c.args.at) (pos 0)) fits) c.loop-row.invariant
