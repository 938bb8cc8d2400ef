use Rattle.std.proofs.Common.{take}
use Rattle.mosaic_builds.specs.Built.{warning_of, warnings_of}
use Rattle.mosaic_builds.specs.Steps.{warns}
use Rattle.mosaic_builds.specs.Walks.{heads_at}
use Rattle.mosaic_builds.proofs.Going.{warned_more}
use Rattle.mosaic_builds.proofs.putting.warn_all.Goals as goal

pub loop-skipped-preserved : goal.loop-skipped-preserved
loop-skipped-preserved g c = λ fresh.
    let made = c.args.made.now in
    let i = c.loop-skipped.skipped-index in
    let heads = heads_at made.cat made.ids in
    warned_more (warning_of heads) c.as_slice-skipped-items.result.now made.skipped i _ c.warn.new.failed (g.E.Sink.faults c.args.err.now) (g.E.Sink.faults c.warn.new.err) (g.E.Sink.got c.args.err.now) (g.E.Sink.got c.warn.new.err)
    c.as_slice-skipped-items.ensures.items c.loop-skipped-test.true
    (c.warn.ensures.warned (warns (warnings_of heads (take i made.skipped))) (g.E.Sink.faults c.args.err.now) (g.E.Sink.got c.args.err.now) (c.loop-skipped.invariant fresh))
