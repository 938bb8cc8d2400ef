use Rattle.std.proofs.Common.{ap, arith, refl, sym, subst}
use Rattle.lane_teams.specs.Ready.{AreLanesReady}
use Rattle.strip_copies.specs.Copies.{IsRoomFor}
use Rattle.output_copies.proofs.Ends.{ends_after, ok_then}
use Rattle.output_copies.proofs.making.make_counted.Goals as goal

pub make_blocks-answer-requires-clause-ready : goal.make_blocks-answer-requires-clause-ready
make_blocks-answer-requires-clause-ready g c κs within =
    subst (AreLanesReady g.F.Folder g.S.Scene.told g.S.Scene.cat c.args.worker.now.desk.view c.args.task.now.translation.now.cat) (ap (λ v. v.items) (sym c.replace-lanes.ensures.value)) c.requires.worker.ready

pub make_blocks-answer-requires-clause-room : goal.make_blocks-answer-requires-clause-room
make_blocks-answer-requires-clause-room g c κs within =
    let t = c.args.task.now.translation.now in
    subst (λ x. IsRoomFor t.cat t.id t.plan x c.replace-samples.result.items) (sym c.replace-columns.ensures.value)
    (subst (IsRoomFor t.cat t.id t.plan c.args.worker.now.columns) (ap (λ v. v.items) (sym c.replace-samples.ensures.value)) c.requires.worker.room_for)

pub returns-clause-done : goal.returns-clause-done
returns-clause-done g c =
    let o = c.make_blocks-answer.ensures in
    record {
      worker = record { ready = o.ready; room_for = o.room; desk = o.desk };
      made = λ ok. ok_then c.make_blocks-answer.result _ ok o.made;
      changed = o.changed;
    }

pub returns-clause-ends : goal.returns-clause-ends
returns-clause-ends g c =
    ends_after g.S.Scene.told g.S.Scene.told 0 (g.F.Folder.faults c.args.worker.now.desk.view) (g.F.Folder.faults c.make_blocks-answer.new.desk.view) 0 0 0 c.make_blocks-answer.result refl (omega arith) (omega arith) c.make_blocks-answer.ensures.ends
