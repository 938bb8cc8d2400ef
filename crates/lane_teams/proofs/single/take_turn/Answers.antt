use Rattle.std.proofs.Common.{◌∙◌, sym, subst, arith}
use Rattle.lane_teams.specs.Parts.{AreOfWindow}
use Rattle.lane_teams.proofs.Groups.{ready_over, right_over}
use Rattle.lane_teams.proofs.Refusals.{ok_then}
use Rattle.lane_teams.proofs.single.take_turn.Goals as goal

pub read_alone-requires-clause-told : goal.read_alone-requires-clause-told
read_alone-requires-clause-told g c κs within = sym c.requires.turn.same

pub read_alone-requires-clause-ready : goal.read_alone-requires-clause-ready
read_alone-requires-clause-ready g c κs within =
    ready_over g.F.Folder g.S.Scene.told c.args.supply.now.cat.now c.args.turn.now.view c.args.lane.now c.requires.turn.same c.requires.walked c.requires.right

pub returns-clause-right : goal.returns-clause-right
returns-clause-right g c =
    right_over g.F.Folder g.S.Scene.told c.args.supply.now.cat.now c.read_alone.new.folder c.read_alone.new.lane (c.read_alone.ensures.only_read.names ∙ c.requires.turn.same) c.read_alone.ensures.ready

pub returns-clause-turn : goal.returns-clause-turn
returns-clause-turn g c =
    let was = c.requires.turn in
    let o = c.read_alone.ensures in
    record {
      same = o.only_read.names ∙ was.same;
      unwritten = o.only_read.writes ∙ was.unwritten;
      failed = λ e. (let rose = o.cause.failed e in omega arith);
      changed = o.changed;
      never = λ m e. o.never m (was.same ∙ e);
    }

pub returns-clause-shown : goal.returns-clause-shown
returns-clause-shown g c = λ ok.
    subst (λ t. AreOfWindow t c.args.supply.now.cat.now c.args.window c.read_alone.new.out) c.requires.turn.same (ok_then c.read_alone.result _ ok c.read_alone.ensures.shown)
