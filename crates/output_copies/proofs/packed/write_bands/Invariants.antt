use Rattle.std.proofs.Common.{◌≡◌, ◌+◌, ◌≤◌, []}
use Rattle.output_copies.specs.Filled.{IsFilled}
use Rattle.output_copies.proofs.packed.write_bands.Given as goal

-- the bands so far
abbrev pub invariant-loop-band : goal.invariant-loop-band
invariant-loop-band g l = record {
  filled : IsFilled (g.F.Folder.names l.fn.folder) l.task.translation.now.cat l.task.translation.now.id l.task.translation.now.plan l.target l.y (l.y + 1) l.band;
  empty : l.target.pool.entries ≡ [];
  name : l.target.name ≡ l.fn.target.name;
  names : g.F.Folder.names l.folder ≡ g.F.Folder.names l.fn.folder;
  later : g.F.Folder.faults l.fn.folder ≤ g.F.Folder.faults l.folder;
}
