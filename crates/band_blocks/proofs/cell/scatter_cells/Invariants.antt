use Rattle.std.proofs.Common.{map}
use Rattle.band_blocks.specs.Spread.{IsSpread}
use Rattle.band_blocks.proofs.cell.scatter_cells.Given as goal

abbrev pub invariant-loop-i : goal.invariant-loop-i
invariant-loop-i g l = IsSpread l.samples 0 l.i l.start l.stride (map g.T.Cell.value l.fn.cells) (map g.T.Cell.value l.cells)
