use Rattle.std.proofs.Common.{◌≡◌, ◌≤◌, []}
use Rattle.write_back.specs.Forms.{cut_of}
use Rattle.output_copies.specs.Packed.{top_of, AreBlocksWritten}
use Rattle.output_copies.proofs.Handed.{AreWritten}
use Rattle.output_copies.proofs.packed.write_all.Given as goal

-- what was written so far
abbrev pub invariant-loop-at : goal.invariant-loop-at
invariant-loop-at g l = record {
  blocks : AreBlocksWritten (g.F.Folder.names l.fn.folder) l.task.translation.now.cat l.task.translation.now.id l.task.translation.now.plan l.task.packing (cut_of l.task.packing).by_columns l.target (top_of (cut_of l.task.packing).blocks l.task.rows l.first l.at);
  empty : l.target.pool.entries ≡ [];
  written : AreWritten g.S.Scene.told l.task.translation.now.cat l.task.translation.now.id l.task.translation.now.plan l.task.packing l.task.rows l.at l.fn.made l.made;
  name : l.target.name ≡ l.fn.target.name;
  names : g.F.Folder.names l.folder ≡ g.F.Folder.names l.fn.folder;
  later : g.F.Folder.faults l.fn.folder ≤ g.F.Folder.faults l.folder;
}
