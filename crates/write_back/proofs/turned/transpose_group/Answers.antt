use Rattle.std.proofs.Common.{◌≡◌, ◌+◌, ◌*◌, ◌-◌, ap, ◌∙◌, take, drop, length, subst, arith}
use Rattle.std.proofs.lemmas.List.{length-take-le, length-drop}
use Rattle.band_blocks.specs.Spread.{IsSpread}
use Rattle.write_back.proofs.States.{row_fits}
use Rattle.write_back.proofs.Transposed.{line_more}
use Rattle.write_back.proofs.turned.transpose_group.Goals as goal

pub loop-line-preserved : goal.loop-line-preserved
loop-line-preserved c =
    let n = c.loop-line.line in
    let from = c.loop-line.line * c.args.width + c.args.first in
    let run = take (from + c.args.columns - from) (drop from c.args.samples.now) in
    let is : run ≡ take c.args.columns (drop from c.args.samples.now) = ap (λ k. take k (drop from c.args.samples.now)) (omega arith) in
    let fits = row_fits n c.args.width c.args.lines c.loop-line-test.true in
    let within = c.requires.within in
    let rest = length-drop from c.args.samples.now in
    let len : length run ≡ c.args.columns = ap length is ∙ length-take-le c.args.columns (drop from c.args.samples.now) (omega (arith, c.requires.size)) in
    line_more c.args.samples.now run c.loop-line.out c.spread_run.new.out c.args.width c.args.first c.args.columns c.args.lines n c.loop-line-test.true is c.loop-line.invariant
    (subst (λ k. IsSpread run 0 k n c.args.lines c.loop-line.out c.spread_run.new.out) len c.spread_run.ensures.spread)
