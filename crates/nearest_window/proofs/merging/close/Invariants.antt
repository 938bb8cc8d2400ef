use Rattle.nearest_window.proofs.Canvases.{IsClosedSoFar}
use Rattle.nearest_window.proofs.merging.close.Given as goal

abbrev pub invariant-loop-at : goal.invariant-loop-at
invariant-loop-at l = IsClosedSoFar l.value l.at l.fn.samples l.samples
