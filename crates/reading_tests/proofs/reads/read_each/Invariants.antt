use Rattle.std.proofs.Common.{◌≤◌, length}
use Rattle.nearest_window.specs.Right.{IsReady}
use Rattle.reading_tests.proofs.reads.read_each.Given as goal

abbrev pub invariant-loop-band : goal.invariant-loop-band
invariant-loop-band g l = record {
  ready : IsReady g.F.Folder l.folder l.cat l.reader.lane;
  within : l.from ≤ length l.out;
}
