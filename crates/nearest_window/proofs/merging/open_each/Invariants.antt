use Rattle.nearest_window.proofs.Canvases.{IsOpenedSoFar}
use Rattle.nearest_window.proofs.merging.open_each.Given as goal

abbrev pub invariant-loop-at : goal.invariant-loop-at
invariant-loop-at l = IsOpenedSoFar l.nodata l.at l.fn.samples l.samples
