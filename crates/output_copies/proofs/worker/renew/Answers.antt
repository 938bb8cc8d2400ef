use Rattle.std.proofs.Common.{◌∙◌, ◌<◌, arith, length, refl, sym}
use Rattle.output_copies.proofs.Hands.{all_renewed, answers_more}
use Rattle.output_copies.proofs.worker.renew.Goals as goal

pub loop-at-init : goal.loop-at-init
loop-at-init g c = record {
  done = c.requires.done;
  answers = record { count = refl; ended = λ i d less inside. absurd (omega arith); rest = λ i d behind. refl };
  names = refl;
  later = omega arith;
}

pub renew_one-requires-clause-told : goal.renew_one-requires-clause-told
renew_one-requires-clause-told g c κs within = c.requires.told ∙ sym c.loop-at.invariant.names

pub renew_one-requires-clause-worker : goal.renew_one-requires-clause-worker
renew_one-requires-clause-worker g c κs within = (c.loop-at.invariant.done c.loop-at.at _ (omega (arith, c.loop-at-test.true, c.loop-at.auto.workers))).worker

pub loop-at-preserved : goal.loop-at-preserved
loop-at-preserved g c =
    let t = c.args.task.now.translation.now in
    let so_far = c.loop-at.invariant in
    let o = c.in_ok-renew_one.ensures in
    let inside : c.loop-at.at < length c.loop-at.workers = omega (arith, c.loop-at-test.true, c.loop-at.auto.workers) in
    record {
      done = all_renewed g.F.Folder g.S.Scene.told g.S.Scene.cat t.cat t.id t.plan c.args.task.now.packing c.args.task.now.form c.args.task.now.rows c.args.task.now.step c.args.first c.loop-at.at c.loop-at.workers c.renew_one.new.worker _ inside so_far.done o.worker o.packed o.answer;
      answers = answers_more g.F.Folder g.S.Scene.told c.loop-at.at (g.F.Folder.faults c.args.folder.now) (g.F.Folder.faults c.loop-at.folder) (g.F.Folder.faults c.renew_one.new.folder) c.args.workers.now c.loop-at.workers c.renew_one.new.worker _ inside so_far.later o.later o.answer o.rose c.requires.views so_far.answers;
      names = o.names ∙ so_far.names;
      later = omega (arith, so_far.later, o.later);
    }

pub returns-in_err-renew_one-clause-done : goal.returns-in_err-renew_one-clause-done
returns-in_err-renew_one-clause-done g c =
    let t = c.args.task.now.translation.now in
    let o = c.in_err-renew_one.ensures in
    let inside : c.loop-at.at < length c.loop-at.workers = omega (arith, c.loop-at-test.true, c.loop-at.auto.workers) in
    all_renewed g.F.Folder g.S.Scene.told g.S.Scene.cat t.cat t.id t.plan c.args.task.now.packing c.args.task.now.form c.args.task.now.rows c.args.task.now.step c.args.first c.loop-at.at c.loop-at.workers c.renew_one.new.worker _ inside c.loop-at.invariant.done o.worker o.packed o.answer

pub returns-clause-answers : goal.returns-clause-answers
returns-clause-answers g c = λ i d less.
    let so_far = c.loop-at.invariant in
    so_far.answers.ended i d (omega (arith, so_far.answers.count, c.loop-at-test.false, c.loop-at.auto.at-end, less)) less
