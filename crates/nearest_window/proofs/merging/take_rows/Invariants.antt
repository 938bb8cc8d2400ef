use Rattle.nearest_window.specs.Canvases.{IsMerged}
use Rattle.nearest_window.proofs.merging.take_rows.Given as goal

abbrev pub invariant-loop-row : goal.invariant-loop-row
invariant-loop-row l = IsMerged l.taking l.kind l.pixels l.place l.row l.fn.out l.out
