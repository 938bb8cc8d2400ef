use Rattle.std.proofs.Common.{◌≡◌, ◌≤◌}
use Rattle.output_copies.specs.Packed.{AreDone}
use Rattle.output_copies.proofs.Hands.{AreAnswers}
use Rattle.output_copies.proofs.worker.renew.Given as goal

-- the views so far
abbrev pub invariant-loop-at : goal.invariant-loop-at
invariant-loop-at g l = record {
  done : AreDone g.F.Folder g.S.Scene.told g.S.Scene.cat l.task.translation.now.cat l.task.translation.now.id l.task.translation.now.plan l.task.packing l.task.form l.task.rows l.task.step l.first l.workers;
  answers : AreAnswers g.F.Folder g.S.Scene.told l.at (g.F.Folder.faults l.fn.folder) (g.F.Folder.faults l.folder) l.fn.workers l.workers;
  names : g.F.Folder.names l.folder ≡ g.F.Folder.names l.fn.folder;
  later : g.F.Folder.faults l.fn.folder ≤ g.F.Folder.faults l.folder;
}
