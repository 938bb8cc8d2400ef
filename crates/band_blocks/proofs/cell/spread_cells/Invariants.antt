use Rattle.std.proofs.Common.{map}
use Rattle.band_blocks.specs.Spread.{IsSpread}
use Rattle.band_blocks.proofs.cell.spread_cells.Given as goal

abbrev pub invariant-loop-i : goal.invariant-loop-i
invariant-loop-i g l = IsSpread (map g.T.Cell.value l.cells) l.at l.i l.start l.stride l.fn.out l.out
