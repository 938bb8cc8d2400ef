use Rattle.std.proofs.Common.{◌≡◌, false, take}
use Rattle.error_lines.specs.Steps.{AreWarned}
use Rattle.mosaic_builds.specs.Built.{warnings_of}
use Rattle.mosaic_builds.specs.Steps.{warns}
use Rattle.mosaic_builds.specs.Walks.{heads_at}
use Rattle.mosaic_builds.proofs.putting.warn_all.Given as goal

-- the warnings so far
abbrev pub invariant-loop-skipped : goal.invariant-loop-skipped
invariant-loop-skipped g l = l.fn.failed ≡ false → AreWarned (warns (warnings_of (heads_at l.made.cat l.made.ids) (take l.skipped-index l.made.skipped))) l.failed (g.E.Sink.faults l.fn.err) (g.E.Sink.faults l.err) (g.E.Sink.got l.fn.err) (g.E.Sink.got l.err)
