use Rattle.std.proofs.Common.{◌≡◌, ◌+◌, ◌*◌, ◌∙◌, ap, sym, subst, refl, length, inl, inr, Err, arith}
use Rattle.std.specs.List.{All}
use Rattle.nearest_window.specs.declared.window.Window.{Window}
use Rattle.lane_teams.specs.Parts.{part_of, AreOfWindow}
use Rattle.lane_teams.specs.Refusals.{IsFirstOf}
use Rattle.lane_teams.specs.Turns.{IsDone, IsTurnOf}
use Rattle.lane_teams.proofs.Answered.{err_is, team_answered}
use Rattle.lane_teams.proofs.Groups.{all_kept, all_right, all_ready, walked_of}
use Rattle.lane_teams.proofs.Refusals.{all_done, ok_given, put_back}
use Rattle.lane_teams.proofs.Windows.{whole_window}
use Rattle.lane_teams.proofs.beside.read_beside.Goals as goal

pub read_views-requires-clause-told : goal.read_views-requires-clause-told
read_views-requires-clause-told g c κs within = c.requires.told ∙ sym c.in_ok-turns.ensures.only_read.names

pub read_views-requires-clause-ready : goal.read_views-requires-clause-ready
read_views-requires-clause-ready g c κs within =
    let o = c.in_ok-turns.ensures in
    let names = o.only_read.names in
    let some = c.requires.some in
    let count = c.requires.count in
    let window : part_of c.args.job.now.window c.args.job.now.count 0 (0 + length c.args.lanes.now) ≡ c.args.job.now.window =
    (let n : 0 + length c.args.lanes.now ≡ c.args.job.now.count = omega arith in ap (part_of c.args.job.now.window c.args.job.now.count 0) n ∙ whole_window c.args.job.now.window c.args.job.now.count (omega arith)) in
    record {
      some = some;
      pairs = ap length c.as_mut_slice.ensures.value ∙ o.count;
      few = omega arith;
      walked = λ m e. walked_of g.F.Folder c.args.supply.now.cat.now c.args.folder.now c.args.lanes.now some c.requires.ready m (sym names ∙ e);
      window = c.requires.window;
      size = c.requires.size ∙ ap (λ (w : Window). c.args.job.now.window.rect.w * w.rect.h) (sym window);
      right = all_right g.F.Folder (g.F.Folder.names c.turns_of.new.folder) c.args.supply.now.cat.now c.args.folder.now c.args.lanes.now (sym names) c.requires.ready;
      turns_are = subst (All (IsTurnOf g.F.Folder (g.F.Folder.names c.turns_of.new.folder) c.args.supply.now.cat.now)) (sym c.as_mut_slice.ensures.value) o.turns;
    }

pub returns-clause-shown : goal.returns-clause-shown
returns-clause-shown g c =
    let o = c.in_ok-turns.ensures in
    let some = c.requires.some in
    let count = c.requires.count in
    let read = c.read_views.ensures.read in
    let whole = put_back c.in_ok-turns.turns.len c.read_views.new.turns c.in_ok-turns.turns.items (sym (c.read_views.auto.turns ∙ c.as_mut_slice.ensures.len)) in
    let n : 0 + length c.args.lanes.now ≡ c.args.job.now.count = omega arith in
    let window : part_of c.args.job.now.window c.args.job.now.count 0 (0 + length c.args.lanes.now) ≡ c.args.job.now.window = ap (part_of c.args.job.now.window c.args.job.now.count 0) n ∙ whole_window c.args.job.now.window c.args.job.now.count (omega arith) in
    ok_given c.collect.result _
    (λ ok.
    subst (λ t. AreOfWindow t c.args.supply.now.cat.now c.args.job.now.window c.read_views.new.out) o.only_read.names
    (subst (λ w. AreOfWindow (g.F.Folder.names c.turns_of.new.folder) c.args.supply.now.cat.now w c.read_views.new.out) window
    (read.shown (subst (All IsDone) whole (all_done _ (sym c.collect.ensures.first ∙ ok))))))

pub returns-clause-first : goal.returns-clause-first
returns-clause-first g c =
    let whole = put_back c.in_ok-turns.turns.len c.read_views.new.turns c.in_ok-turns.turns.items (sym (c.read_views.auto.turns ∙ c.as_mut_slice.ensures.len)) in
    inl (subst (λ t. IsFirstOf t c.args.supply.now.cat.now c.args.job.now.window c.args.job.now.count c.read_views.new.out c.collect.result) c.in_ok-turns.ensures.only_read.names
    (team_answered g.F.Folder (g.F.Folder.names c.turns_of.new.folder) c.args.supply.now.cat.now c.args.job.now c.args.lanes.now c.read_views.new.lanes c.read_views.new.turns _ c.read_views.new.out c.collect.result
    c.requires.count c.read_views.ensures.read whole c.collect.ensures.first))

pub returns-in_err-turns-clause-first : goal.returns-in_err-turns-clause-first
returns-in_err-turns-clause-first g c = inr (record {
  memory = err_is c.from_residual.result c.in_err-turns.field-0.0 c.from_residual.ensures ∙ ap Err c.in_err-turns.ensures.memory;
  unread = refl;
})

pub returns-clause-ready : goal.returns-clause-ready
returns-clause-ready g c =
    let o = c.in_ok-turns.ensures in
    let names = c.collect.ensures.only_read.names in
    all_ready g.F.Folder (g.F.Folder.names c.turns_of.new.folder) c.args.supply.now.cat.now c.collect.new.folder c.read_views.new.lanes names
    (λ m e. walked_of g.F.Folder c.args.supply.now.cat.now c.args.folder.now c.args.lanes.now c.requires.some c.requires.ready m (sym o.only_read.names ∙ e)) c.read_views.ensures.read.right

pub returns-in_err-turns-clause-ready : goal.returns-in_err-turns-clause-ready
returns-in_err-turns-clause-ready g c =
    all_kept g.F.Folder c.args.supply.now.cat.now c.args.folder.now c.turns_of.new.folder c.args.lanes.now c.in_err-turns.ensures.only_read.names c.requires.ready

pub returns-clause-capacity : goal.returns-clause-capacity
returns-clause-capacity g c = c.read_views.ensures.read.rooms

pub collect-requires-clause-turns : goal.collect-requires-clause-turns
collect-requires-clause-turns g c κs within =
    let whole = put_back c.in_ok-turns.turns.len c.read_views.new.turns c.in_ok-turns.turns.items (sym (c.read_views.auto.turns ∙ c.as_mut_slice.ensures.len)) in
    subst (All (IsTurnOf g.F.Folder (g.F.Folder.names c.turns_of.new.folder) c.args.supply.now.cat.now)) (sym whole) c.read_views.ensures.read.turns_are
