use Rattle.std.proofs.Common.{◌∙◌, ap, length, subst, sym}
use Rattle.std.specs.List.{All}
use Rattle.output_copies.specs.Packed.{AreDone, HasRoom, IsWorker, MayAnswerByViews, MayTell, WereMade}
use Rattle.output_copies.proofs.Kept.{put_back}
use Rattle.output_copies.proofs.rounds.take_made.Goals as goal

pub renew-requires-clause-done : goal.renew-requires-clause-done
renew-requires-clause-done g c κs within =
    let t = c.args.task.now.translation.now in
    subst (AreDone g.F.Folder g.S.Scene.told g.S.Scene.cat t.cat t.id t.plan c.args.task.now.packing c.args.task.now.form c.args.task.now.rows c.args.task.now.step c.args.first) (sym c.as_mut_slice-workers.ensures.value) c.requires.done

pub renew-requires-clause-views : goal.renew-requires-clause-views
renew-requires-clause-views g c κs within = subst (MayAnswerByViews g.S.Scene.told g.F.Folder) (sym c.as_mut_slice-workers.ensures.value) c.requires.views

pub hand_over-requires-clause-count : goal.hand_over-requires-clause-count
hand_over-requires-clause-count g c κs within =
    ap length c.as_mut_slice-made.ensures.value ∙ (c.requires.count ∙ sym (c.renew.auto.workers ∙ ap length c.as_mut_slice-workers.ensures.value))

pub returns-clause-count : goal.returns-clause-count
returns-clause-count g c =
    let same = c.hand_over.auto.workers ∙ c.renew.auto.workers in
    ap length (put_back c.args.crew.now.workers.len c.hand_over.new.workers c.args.crew.now.workers.items (sym (same ∙ c.as_mut_slice-workers.ensures.len))) ∙ (same ∙ ap length c.as_mut_slice-workers.ensures.value)

pub returns-clause-count_made : goal.returns-clause-count_made
returns-clause-count_made g c =
    ap length (put_back c.args.crew.now.made.len c.hand_over.new.made c.args.crew.now.made.items (sym (c.hand_over.auto.made ∙ c.as_mut_slice-made.ensures.len))) ∙ (c.hand_over.auto.made ∙ ap length c.as_mut_slice-made.ensures.value)

pub returns-clause-made : goal.returns-clause-made
returns-clause-made g c =
    let t = c.args.task.now.translation.now in
    let same = put_back c.args.crew.now.made.len c.hand_over.new.made c.args.crew.now.made.items (sym (c.hand_over.auto.made ∙ c.as_mut_slice-made.ensures.len)) in
    subst (WereMade g.S.Scene.told t.cat t.id t.plan c.args.task.now.packing c.args.task.now.rows c.args.first) (sym same) c.hand_over.ensures.made

pub returns-clause-answers : goal.returns-clause-answers
returns-clause-answers g c =
    let before = g.F.Folder.faults c.args.folder.now in
    let now = g.F.Folder.faults c.renew.new.folder in
    let same = put_back c.args.crew.now.made.len c.hand_over.new.made c.args.crew.now.made.items (sym (c.hand_over.auto.made ∙ c.as_mut_slice-made.ensures.len)) in
    subst (MayTell g.S.Scene.told before now) (sym same) (c.hand_over.ensures.answers before now c.in_ok-renew.ensures.answers)

pub returns-clause-workers : goal.returns-clause-workers
returns-clause-workers g c = λ rooms.
    let t = c.args.task.now.translation.now in
    let w = c.args.task.now.packing in
    let same = put_back c.args.crew.now.workers.len c.hand_over.new.workers c.args.crew.now.workers.items (sym (c.hand_over.auto.workers ∙ c.renew.auto.workers ∙ c.as_mut_slice-workers.ensures.len)) in
    subst (All (IsWorker g.F.Folder g.S.Scene.told g.S.Scene.cat t.cat t.id t.plan w c.args.task.now.form c.args.task.now.rows c.args.task.now.step)) (sym same)
    (c.hand_over.ensures.workers (subst (All (HasRoom t.plan w c.args.task.now.rows)) (sym c.as_mut_slice-made.ensures.value) rooms))
