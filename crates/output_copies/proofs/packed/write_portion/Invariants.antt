use Rattle.std.proofs.Common.{◌≡◌, ◌≤◌, []}
use Rattle.write_back.specs.Forms.{cut_of}
use Rattle.output_copies.specs.Packed.{AreBlocksWritten}
use Rattle.output_copies.proofs.packed.write_portion.Given as goal

-- the blocks so far
abbrev pub invariant-loop-block : goal.invariant-loop-block
invariant-loop-block g l = record {
  written : AreBlocksWritten (g.F.Folder.names l.fn.folder) l.task.translation.now.cat l.task.translation.now.id l.task.translation.now.plan l.task.packing (cut_of l.task.packing).by_columns l.target l.block;
  empty : l.target.pool.entries ≡ [];
  name : l.target.name ≡ l.fn.target.name;
  names : g.F.Folder.names l.folder ≡ g.F.Folder.names l.fn.folder;
  later : g.F.Folder.faults l.fn.folder ≤ g.F.Folder.faults l.folder;
}
