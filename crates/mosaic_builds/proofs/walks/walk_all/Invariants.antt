use Rattle.std.proofs.Common.{◌≡◌, ◌≤◌, ◌++◌, List, Some, take, drop}
use Rattle.outside.specs.Outside.{Files}
use Rattle.catalog.specs.Drivers.{Dataset}
use Rattle.catalog.specs.Walk.{IsWalked}
use Rattle.mosaic_builds.specs.Walks.{walked_all, AreNumbers}
use Rattle.mosaic_builds.proofs.walks.walk_all.Given as goal

-- the walks so far, and those that are left
abbrev pub invariant-loop-name : goal.invariant-loop-name
invariant-loop-name g l = record {
  told : (m : Files) → g.F.Folder.names l.fn.folder ≡ Some m → walked_all m l.verify l.fn.cat l.names ≡ walked_all m l.verify l.cat (drop l.name-index l.names);
  numbers : AreNumbers l.cat (take l.name-index l.names) l.ids;
  kept : (more : List Dataset) × (l.cat ≡ l.fn.cat ++ more);
  walked : (m : Files) → g.F.Folder.names l.fn.folder ≡ Some m → IsWalked m l.fn.cat → IsWalked m l.cat;
  same : g.F.Folder.names l.folder ≡ g.F.Folder.names l.fn.folder;
  writes : g.F.Folder.write_calls l.folder ≡ g.F.Folder.write_calls l.fn.folder;
  later : g.F.Folder.faults l.fn.folder ≤ g.F.Folder.faults l.folder;
}
