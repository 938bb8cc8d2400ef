use Rattle.std.proofs.Common.{◌≡◌, ◌∙◌, ◌+◌, ap, arith, subst}
use Rattle.write_back.specs.Forms.{cut_of}
use Rattle.output_copies.specs.Packed.{top_of, HasDone}
use Rattle.output_copies.proofs.making.make_turn.Goals as goal

pub make_alone-requires-clause-end : goal.make_alone-requires-clause-end
make_alone-requires-clause-end g c κs within = omega (arith, c.portion_of-portion.ensures.within, c.extent_of-extent.ensures.extent)

pub returns-clause-done : goal.returns-clause-done
returns-clause-done g c =
    let t = c.args.task.now.translation.now in
    let w = c.args.task.now.packing in
    let rows = c.args.task.now.rows in
    let e = c.extent_of-extent.ensures.extent in
    let top : c.portion_of-portion.result.top ≡ top_of (cut_of c.args.task.now.packing).blocks c.args.task.now.rows c.args.first c.args.at = c.portion_of-portion.ensures.top ∙ ap (λ n. top_of n rows c.args.first c.args.at) e in
    let end : c.portion_of-portion.result.end ≡ top_of (cut_of c.args.task.now.packing).blocks c.args.task.now.rows c.args.first (c.args.at + 1) = c.portion_of-portion.ensures.end ∙ ap (λ n. top_of n rows c.args.first (c.args.at + 1)) e in
    subst (λ n. HasDone g.F.Folder g.S.Scene.told g.S.Scene.cat t.cat t.id t.plan w c.args.task.now.form rows c.args.task.now.step n (top_of (cut_of w).blocks rows c.args.first (c.args.at + 1)) c.make_alone.new.worker) top
    (subst (λ n. HasDone g.F.Folder g.S.Scene.told g.S.Scene.cat t.cat t.id t.plan w c.args.task.now.form rows c.args.task.now.step c.portion_of-portion.result.top n c.make_alone.new.worker) end c.make_alone.ensures.done)
