use Rattle.std.proofs.Common.{◌+◌, ◌∙◌, ap, length, sym}
use Rattle.std.proofs.lemmas.List.{length_push}
use Rattle.std.proofs.lemmas.List.Elements.{All-push, All-same}
use Rattle.output_copies.specs.Packed.{IsWorker}
use Rattle.output_copies.proofs.worker.hire.Goals as goal

pub hire_one-requires-clause-told : goal.hire_one-requires-clause-told
hire_one-requires-clause-told g c κs within = c.requires.told ∙ sym c.loop-at.invariant.names

pub hire_one-requires-clause-walked : goal.hire_one-requires-clause-walked
hire_one-requires-clause-walked g c κs within = λ m is. c.requires.walked m (sym c.loop-at.invariant.names ∙ is)

pub loop-at-preserved : goal.loop-at-preserved
loop-at-preserved g c =
    let t = c.args.task.now.translation.now in
    let was = c.loop-at.invariant in
    let items = c.in_default-push.ensures.items in
    record {
      count = ap length items ∙ length_push c.loop-at.workers.items _ ∙ ap (λ n. n + 1) was.count;
      workers = All-same (IsWorker g.F.Folder g.S.Scene.told g.S.Scene.cat t.cat t.id t.plan c.args.task.now.packing c.args.task.now.form c.args.task.now.rows c.args.task.now.step) _ _ items
          (All-push (IsWorker g.F.Folder g.S.Scene.told g.S.Scene.cat t.cat t.id t.plan c.args.task.now.packing c.args.task.now.form c.args.task.now.rows c.args.task.now.step) c.loop-at.workers.items _ was.workers c.in-Ok.ensures.worker);
      names = was.names;
      later = was.later;
    }
