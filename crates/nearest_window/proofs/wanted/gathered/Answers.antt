use Rattle.std.proofs.Common.{arith}
use Rattle.nearest_window.proofs.Needed.{gathered_all, gathered_from}
use Rattle.nearest_window.proofs.wanted.gathered.Goals as goal

pub loop-y-preserved : goal.loop-y-preserved
loop-y-preserved c =
    let before = c.loop-y.invariant in
    let index = c.args.index.now in
    let y = c.loop-y.y in
    let old = c.loop-y.numbers.items in
    let new = c.extend_from_slice.new.self.items in
    let added = c.in_ok-extend_from_slice.ensures.items in
    record {
      low = omega (arith, before.low, c.stretch_end-y.ensures.behind);
      all = gathered_all index c.args.rect.y y c.stretch_end-y.result old c.at.result.now new added c.at.ensures.list before.all c.stretch_end-y.ensures.same;
      from = gathered_from index c.args.rect y old c.at.result.now new added c.at.ensures.list (record { top = before.low; bottom = c.loop-y-test.true }) before.from;
    }

pub returns-clause-all : goal.returns-clause-all
returns-clause-all c = λ n there. c.loop-y.invariant.all there.line there.within.top (omega (arith, there.within.bottom, c.loop-y-test.false)) n there.listed
