use Rattle.std.proofs.Common.{◌∙◌, ◌≤◌, subst, sym}
use Rattle.lane_teams.specs.Ready.{AreLanesReady}
use Rattle.lane_teams.proofs.Lanes.{lanes_kept}
use Rattle.output_copies.proofs.worker.renew_one.Goals as goal

pub returns-clause-worker : goal.returns-clause-worker
returns-clause-worker g c =
    let was = c.requires.worker in
    let cat = c.args.task.now.translation.now.cat in
    record {
      ready = subst (λ v. AreLanesReady g.F.Folder g.S.Scene.told g.S.Scene.cat v cat c.args.worker.now.lanes.items) (sym c.replace-used.ensures.after)
          (lanes_kept g.F.Folder g.S.Scene.told g.S.Scene.cat cat _ c.args.worker.now.desk.view c.in-Ok.view (c.in-Ok.ensures.view.same ∙ (sym c.requires.told ∙ was.ready.told_is)) was.ready);
      room_for = was.room_for;
      desk = was.desk;
    }

pub returns-clause-rose : goal.returns-clause-rose
returns-clause-rose g c = λ some. c.end_view.ensures.rose (subst (λ v. 1 ≤ g.F.Folder.faults v) (sym c.replace-used.ensures.value) some)
