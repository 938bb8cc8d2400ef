use Rattle.std.proofs.Common.{◌≡◌, ◌≤◌, length}
use Rattle.std.specs.List.{All}
use Rattle.output_copies.specs.Packed.{IsWorker}
use Rattle.output_copies.proofs.worker.hire.Given as goal

-- the workers so far
abbrev pub invariant-loop-at : goal.invariant-loop-at
invariant-loop-at g l = record {
  count : length l.workers.items ≡ l._at;
  workers : All (IsWorker g.F.Folder g.S.Scene.told g.S.Scene.cat l.task.translation.now.cat l.task.translation.now.id l.task.translation.now.plan l.task.packing l.task.form l.task.rows l.task.step) l.workers.items;
  names : g.F.Folder.names l.folder ≡ g.F.Folder.names l.fn.folder;
  later : g.F.Folder.faults l.fn.folder ≤ g.F.Folder.faults l.folder;
}
