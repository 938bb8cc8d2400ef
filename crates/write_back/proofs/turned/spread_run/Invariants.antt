use Rattle.band_blocks.specs.Spread.{IsSpread}
use Rattle.write_back.proofs.turned.spread_run.Given as goal

abbrev pub invariant-loop-i : goal.invariant-loop-i
invariant-loop-i l = IsSpread l.run 0 l.i l.start l.stride l.fn.out l.out
