use Rattle.std.proofs.Common.{◌∙◌, sym}
use Rattle.lane_teams.proofs.Lanes.{lanes_begin}
use Rattle.output_copies.proofs.worker.hire_one.Goals as goal

pub returns : goal.returns
returns g c =
    let same = c.in_ok-view.ensures.view.same in
    record {
      worker = record {
        ready = lanes_begin g.F.Folder g.S.Scene.told g.S.Scene.cat c.args.task.now.translation.now.cat _ c.in_ok-view.view (c.requires.told ∙ sym same) c.requires.scene (λ m is. c.requires.walked m (sym same ∙ is)) c.in_ok-kit.ensures.fresh;
        room_for = c.in_ok-kit.ensures.room;
        desk = c.in_ok-rooms.ensures.desk;
      };
    }
