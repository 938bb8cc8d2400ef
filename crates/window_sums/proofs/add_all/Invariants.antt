use Rattle.std.proofs.Common.{◌-◌, ◌≤◌}
use Rattle.nearest_window.specs.Right.{IsReady}
use Rattle.window_sums.proofs.add_all.Given as goal

abbrev pub invariant-loop-line : goal.invariant-loop-line
invariant-loop-line g l = record {
  ready : IsReady g.F.Folder l.folder l.cat l.reader.lane;
  below : l.line ≤ l.size.h;
}

abbrev pub decreases-loop-line : goal.decreases-loop-line
decreases-loop-line g l = l.size.h - l.line
