use Rattle.std.proofs.Common.{◌<◌, ◌≤◌, arith, length, subst, sym}
use denote.Exit.{no}
use denote.Param.{layout, param}
use denote.Param.Send.{arg_send, param_send}
use Rattle.lane_teams.specs.Workers.{most_workers}
use Rattle.output_copies.specs.Packed.{IsWorker}
use Rattle.output_copies.proofs.making.make_all.Goals as goal

pub each_at_once-requires-clause-accepts : goal.each_at_once-requires-clause-accepts
each_at_once-requires-clause-accepts g c κs within = λ i p less same.
    let t = c.args.task.now.translation.now in
    let worker : IsWorker g.F.Folder g.S.Scene.told g.S.Scene.cat t.cat t.id t.plan c.args.task.now.packing c.args.task.now.form c.args.task.now.rows c.args.task.now.step p.now =
    subst (IsWorker g.F.Folder g.S.Scene.told g.S.Scene.cat t.cat t.id t.plan c.args.task.now.packing c.args.task.now.form c.args.task.now.rows c.args.task.now.step) (sym same) (c.requires.workers i p.now less) in
    let inside : i < length c.args.workers.now = less in
    let few : length c.args.workers.now ≤ most_workers = c.requires.few in (
      (
        record { shared = c.type_bounds.sync-R.shared },
        param_send 2 _ (arg_send (layout g.row.S) no (param 2 g.row.S) c.type_bounds.send-S),
        record { shared = c.type_bounds.sync-S.shared },
        param_send 1 _ (arg_send (layout g.row.F) no (param 1 g.row.F) c.type_bounds.send-F),
        param_send 3 _ (arg_send (layout g.row.F-File) no (param 3 g.row.F-File) c.type_bounds.send-F-File),
        param_send 4 _ (arg_send (layout g.row.F-Draft) no (param 4 g.row.F-Draft) c.type_bounds.send-F-Draft),
        inside,
        few,
        c.requires.task,
        worker,
      ),
      (
        param_send 1 _ (arg_send (layout g.row.F) no (param 1 g.row.F) c.type_bounds.send-F),
        param_send 2 _ (arg_send (layout g.row.S) no (param 2 g.row.S) c.type_bounds.send-S),
        param_send 3 _ (arg_send (layout g.row.F-File) no (param 3 g.row.F-File) c.type_bounds.send-F-File),
        param_send 4 _ (arg_send (layout g.row.F-Draft) no (param 4 g.row.F-Draft) c.type_bounds.send-F-Draft),
        record { shared = c.type_bounds.sync-R.shared },
        record { shared = c.type_bounds.sync-S.shared },
      ),
    )

pub returns-clause-done : goal.returns-clause-done
returns-clause-done g c = λ i d less. let changed = (c.each_at_once.ensures.changes i d (omega (arith, c.each_at_once.ensures.count, less))).1 in rw (← changed.left) changed.call.0

pub returns-clause-ends : goal.returns-clause-ends
returns-clause-ends g c = λ i d less. let changed = (c.each_at_once.ensures.changes i d (omega (arith, c.each_at_once.ensures.count, less))).1 in rw (← changed.left) changed.call.1
