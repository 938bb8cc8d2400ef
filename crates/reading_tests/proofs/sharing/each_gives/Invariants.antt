use Rattle.std.proofs.Common.{◌≡◌}
use Rattle.reading_tests.proofs.sharing.each_gives.Given as goal

abbrev pub invariant-loop-lane : goal.invariant-loop-lane
invariant-loop-lane g l = g.F.Folder.names l.folder ≡ g.F.Folder.names l.fn.folder
