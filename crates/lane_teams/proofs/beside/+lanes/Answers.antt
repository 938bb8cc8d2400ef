use Rattle.std.proofs.Common.{◌*◌, refl, ap, arith}
use Rattle.nearest_window.specs.declared.window.Window.{Window}
use Rattle.lane_teams.proofs.Groups.{front_ready, back_ready, front_fits, groups_read}
use Rattle.lane_teams.proofs.Windows.{window_low}
use Rattle.lane_teams.proofs.beside.+lanes.Goals as goal

pub read_all-returns-then-count-eq1 : goal.read_all-returns-then-count-eq1
read_all-returns-then-count-eq1 g t c = record { read = c.read_one.ensures.read }

pub read_all-part_of-requires-clause-low : goal.read_all-part_of-requires-clause-low
read_all-part_of-requires-clause-low g t c = window_low c.args.supply.now.cat.now c.args.job.now.window c.count-count.ensures.valid c.requires.ready.window

pub read_all-split_at_mut-out-requires : goal.read_all-split_at_mut-out-requires
read_all-split_at_mut-out-requires g t c =
    let ready = c.requires.ready in
    let some = ready.some in
    front_fits g.F.Folder g.S.Scene.told c.args.supply.now.cat.now c.args.job.now c.args.first 1 c.args.lanes.now c.args.turns.now c.args.out.now c.part_of.result.rect c.requires.ready (omega arith) (ap (λ (w : Window). w.rect) c.part_of.ensures.part)

pub read_all-read_pair-requires-clause-front : goal.read_all-read_pair-requires-clause-front
read_all-read_pair-requires-clause-front g t c κs within =
    let ready = c.requires.ready in
    let some = ready.some in
    let more = c.if-count-eq1.false in
    front_ready g.F.Folder g.S.Scene.told c.args.supply.now.cat.now c.args.job.now c.args.first 1 (c.part_of.result.rect.w * c.part_of.result.rect.h)
    c.args.lanes.now c.split_at_mut-lanes.result.0.now c.split_at_mut-lanes.result.1.now c.args.turns.now c.split_at_mut-turns.result.0.now c.split_at_mut-turns.result.1.now c.args.out.now c.split_at_mut-out.result.0.now c.split_at_mut-out.result.1.now
    ready c.split_at_mut-lanes.ensures.value c.split_at_mut-lanes.ensures.front_len c.split_at_mut-turns.ensures.value c.split_at_mut-turns.ensures.front_len c.split_at_mut-out.ensures.value c.split_at_mut-out.ensures.front_len
    (omega arith) (omega arith) (ap (λ (w : Window). w.rect.w * w.rect.h) c.part_of.ensures.part)

pub read_all-read_pair-requires-clause-back : goal.read_all-read_pair-requires-clause-back
read_all-read_pair-requires-clause-back g t c κs within =
    let ready = c.requires.ready in
    let some = ready.some in
    let more = c.if-count-eq1.false in
    back_ready g.F.Folder g.S.Scene.told c.args.supply.now.cat.now c.args.job.now c.args.first 1 (c.part_of.result.rect.w * c.part_of.result.rect.h)
    c.args.lanes.now c.split_at_mut-lanes.result.0.now c.split_at_mut-lanes.result.1.now c.args.turns.now c.split_at_mut-turns.result.0.now c.split_at_mut-turns.result.1.now c.args.out.now c.split_at_mut-out.result.0.now c.split_at_mut-out.result.1.now
    ready c.split_at_mut-lanes.ensures.value c.split_at_mut-lanes.ensures.front_len c.split_at_mut-turns.ensures.value c.split_at_mut-turns.ensures.front_len c.split_at_mut-out.ensures.value c.split_at_mut-out.ensures.front_len
    (omega arith) (omega arith) (ap (λ (w : Window). w.rect.w * w.rect.h) c.part_of.ensures.part)

pub read_all-returns : goal.read_all-returns
read_all-returns g t c =
    let ready = c.requires.ready in
    let some = ready.some in
    let few = ready.few in
    let o = c.read_pair.ensures in
    record {
      read =
          groups_read g.F.Folder g.S.Scene.told c.args.supply.now.cat.now c.args.job.now c.args.first 1
          c.args.lanes.now c.split_at_mut-lanes.result.0.now c.split_at_mut-lanes.result.1.now _ _ _ _ _ _ _ _ _
          (omega arith) c.split_at_mut-lanes.ensures.value c.split_at_mut-lanes.ensures.front_len o.front o.back refl refl refl;
    }

pub read_both-returns-clause-front_read : goal.read_both-returns-clause-front_read
read_both-returns-clause-front_read g t c = let changed = c.both.ensures.front in rw (← changed.left, ← changed.argument_is) changed.call.3

pub read_both-returns-clause-back_read : goal.read_both-returns-clause-back_read
read_both-returns-clause-back_read g t c = let changed = c.both.ensures.back in rw (← changed.left, ← changed.argument_is) changed.call.3
