use Rattle.std.proofs.Common.{◌≡◌, ◌<◌, ◌≤◌, ◌-◌, take, true, length, []}
use Rattle.outside.specs.Streams.{Gets}
use Rattle.std.specs.List.{All}
use Rattle.error_lines.specs.Progress.{progress}
use Rattle.write_back.specs.Forms.{cut_of}
use Rattle.output_copies.specs.Copying.{spoken}
use Rattle.output_copies.specs.Packed.{top_of, AreBlocksWritten, IsWorker, MayTell, WereMade}
use Rattle.output_copies.proofs.rounds.copy_packed.Given as goal

-- the blocks so far: those before the first are written, and those up to the next were made
abbrev pub invariant-loop-next : goal.invariant-loop-next
invariant-loop-next g l = record {
  below : l.next ≤ l.height;
  begins : l.first ≤ (cut_of l.task.packing).blocks;
  end : l.next ≡ top_of (cut_of l.task.packing).blocks l.task.rows l.first (length l.fn.crew.workers.items);
  count : length l.crew.workers.items ≡ length l.fn.crew.workers.items;
  count_made : length l.crew.made.items ≡ length l.fn.crew.workers.items;
  made : WereMade g.S.Scene.told l.task.translation.now.cat l.task.translation.now.id l.task.translation.now.plan l.task.packing l.task.rows l.first l.crew.made.items;
  answers : MayTell g.S.Scene.told (g.F.Folder.faults l.fn.folder) (g.F.Folder.faults l.folder) l.crew.made.items;
  workers : l.next < (cut_of l.task.packing).blocks → All (IsWorker g.F.Folder g.S.Scene.told g.S.Scene.cat l.task.translation.now.cat l.task.translation.now.id l.task.translation.now.plan l.task.packing l.task.form l.task.rows l.task.step) l.crew.workers.items;
  empty : l.target.pool.entries ≡ [];
  written : AreBlocksWritten (g.F.Folder.names l.fn.folder) l.task.translation.now.cat l.task.translation.now.id l.task.translation.now.plan l.task.packing (cut_of l.task.packing).by_columns l.target l.first;
  name : l.target.name ≡ l.fn.target.name;
  names : g.F.Folder.names l.folder ≡ g.F.Folder.names l.fn.folder;
  folder_later : g.F.Folder.faults l.fn.folder ≤ g.F.Folder.faults l.folder;
  still : l.quiet ≡ true → l.out ≡ l.fn.out;
  out_later : g.O.Sink.faults l.fn.out ≤ g.O.Sink.faults l.out;
  told : l.told ≤ 49;
  text : Gets (spoken l.quiet (take l.told progress)) (g.O.Sink.got l.fn.out) (g.O.Sink.got l.out);
}

abbrev pub decreases-loop-next : goal.decreases-loop-next
decreases-loop-next g l = l.height - l.next
