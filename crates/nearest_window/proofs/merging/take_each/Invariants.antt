use Rattle.nearest_window.proofs.Canvases.{IsUnderSoFar}
use Rattle.nearest_window.proofs.merging.take_each.Given as goal

abbrev pub invariant-loop-at : goal.invariant-loop-at
invariant-loop-at l = IsUnderSoFar l.taking l.kind l.pixels l.base l.at l.fn.out l.out
