use Rattle.output_copies.proofs.Handed.{AreHanded}
use Rattle.output_copies.proofs.handing.hand_over.Given as goal

-- the workers so far
abbrev pub invariant-loop-at : goal.invariant-loop-at
invariant-loop-at g l = record {
  handed : AreHanded g.F.Folder g.S.Scene.told g.S.Scene.cat l.task.translation.now.cat l.task.translation.now.id l.task.translation.now.plan l.task.packing l.task.form l.task.rows l.task.step l.at l.first l.fn.workers l.workers l.fn.made l.made;
}
