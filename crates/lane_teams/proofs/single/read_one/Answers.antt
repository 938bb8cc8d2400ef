use Rattle.std.proofs.Common.{◌+◌, sym, subst, arith}
use Rattle.nearest_window.specs.Windows.{IsWindow}
use Rattle.lane_teams.specs.Parts.{AreOfWindow}
use Rattle.lane_teams.proofs.Windows.{window_part}
use Rattle.lane_teams.proofs.Groups.{one_read}
use Rattle.lane_teams.proofs.single.read_one.Goals as goal

pub take_turn-requires-clause-window : goal.take_turn-requires-clause-window
take_turn-requires-clause-window g c κs within =
    let ready = c.requires.ready in
    let one = c.requires.one in
    let few = ready.few in
    subst (IsWindow c.args.supply.now.cat.now) (sym c.part_of-window.ensures.part)
    (window_part c.args.supply.now.cat.now c.args.job.now.window c.args.job.now.count c.args.first (c.args.first + 1) (omega arith) (omega arith) (omega arith) ready.window)

pub returns : goal.returns
returns g c = record {
  read =
      one_read g.F.Folder g.S.Scene.told c.args.supply.now.cat.now c.args.job.now c.args.first c.args.lanes.now c.args.turns.now c.take_turn.new.lane _ c.take_turn.new.turn c.args.out.now
      c.requires.ready c.requires.one c.take_turn.new.out c.take_turn.ensures.capacity c.take_turn.ensures.right c.take_turn.ensures.turn c.take_turn.auto.out
      (λ ok. subst (λ w. AreOfWindow g.S.Scene.told c.args.supply.now.cat.now w c.take_turn.new.out) c.part_of-window.ensures.part (c.take_turn.ensures.shown ok));
}
