use Rattle.std.proofs.Common.{◌∙◌, ap, arith, length, subst, sym}
use Rattle.std.specs.List.{All}
use Rattle.output_copies.specs.Packed.{AreDone, IsWorker, MayAnswerByViews}
use Rattle.output_copies.proofs.Ends.{ok_map}
use Rattle.output_copies.proofs.Kept.{put_back}
use Rattle.output_copies.proofs.rounds.make_first.Goals as goal

pub make_all-requires-clause-some : goal.make_all-requires-clause-some
make_all-requires-clause-some g c κs within = (let n = ap length c.as_mut_slice-workers.ensures.value in omega (arith, n, c.requires.may.some))

pub make_all-requires-clause-few : goal.make_all-requires-clause-few
make_all-requires-clause-few g c κs within = (let n = ap length c.as_mut_slice-workers.ensures.value in omega (arith, n, c.requires.may.few))

pub make_all-requires-clause-workers : goal.make_all-requires-clause-workers
make_all-requires-clause-workers g c κs within =
    let t = c.args.task.now.translation.now in
    subst (All (IsWorker g.F.Folder g.S.Scene.told g.S.Scene.cat t.cat t.id t.plan c.args.task.now.packing c.args.task.now.form c.args.task.now.rows c.args.task.now.step)) (sym c.as_mut_slice-workers.ensures.value) c.requires.may.each

pub take_made-requires-clause-count : goal.take_made-requires-clause-count
take_made-requires-clause-count g c κs within =
    let long = sym (c.make_all.auto.workers ∙ c.as_mut_slice-workers.ensures.len) in
    let same = put_back c.args.crew.now.workers.len c.make_all.new.workers c.args.crew.now.workers.items long in
    c.requires.count ∙ sym (ap length same ∙ (c.make_all.auto.workers ∙ ap length c.as_mut_slice-workers.ensures.value))

pub take_made-requires-clause-done : goal.take_made-requires-clause-done
take_made-requires-clause-done g c κs within =
    let t = c.args.task.now.translation.now in
    let long = sym (c.make_all.auto.workers ∙ c.as_mut_slice-workers.ensures.len) in
    let same = put_back c.args.crew.now.workers.len c.make_all.new.workers c.args.crew.now.workers.items long in
    subst (AreDone g.F.Folder g.S.Scene.told g.S.Scene.cat t.cat t.id t.plan c.args.task.now.packing c.args.task.now.form c.args.task.now.rows c.args.task.now.step 0) (sym same) c.make_all.ensures.done

pub take_made-requires-clause-views : goal.take_made-requires-clause-views
take_made-requires-clause-views g c κs within =
    let long = sym (c.make_all.auto.workers ∙ c.as_mut_slice-workers.ensures.len) in
    let same = put_back c.args.crew.now.workers.len c.make_all.new.workers c.args.crew.now.workers.items long in
    subst (MayAnswerByViews g.S.Scene.told g.F.Folder) (sym same) c.make_all.ensures.ends

pub returns-clause-count : goal.returns-clause-count
returns-clause-count g c =
    let long = sym (c.make_all.auto.workers ∙ c.as_mut_slice-workers.ensures.len) in
    let same = put_back c.args.crew.now.workers.len c.make_all.new.workers c.args.crew.now.workers.items long in
    ok_map c.take_made.result _ _ (λ count. count ∙ (ap length same ∙ (c.make_all.auto.workers ∙ ap length c.as_mut_slice-workers.ensures.value))) c.take_made.ensures.count
