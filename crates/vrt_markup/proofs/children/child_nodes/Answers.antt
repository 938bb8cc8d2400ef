use Rattle.std.proofs.Common.{arith, ap, sym, subst, ◌∙◌, ◌-◌, length, ◌&&◌}
use Rattle.vrt_markup.specs.Forest.{nodes, inner, read_as}
use Rattle.vrt_markup.specs.Kept.{seen, kept_of, Fails}
use Rattle.vrt_markup.specs.Fronts.{stepped}
use Rattle.vrt_markup.specs.Views.{tag_view}
use Rattle.vrt_markup.proofs.Reading.{read_comment, read_deep, seen_run, seen_open, child_fails}
use Rattle.vrt_markup.proofs.children.child_nodes.Goals as goal

pub items-preserved-in-Comment : goal.items-preserved-in-Comment
items-preserved-in-Comment g c =
    let step = g.P.Parts.step c.args.parts.now in
    let kept = kept_of (g.P.Parts.value c.items.parts) c.items.seen.kept in
    record {
      left = sym (read_comment (seen step kept c.items.seen.white) c.args.level.total c.args.level.depth c.args.name.now c.items.rest.now c.in-Comment.more.now c.in-Comment.ensures.item) ∙ c.items.invariant.left;
      same = c.items.invariant.same;
      shorter = omega (arith, c.in-Comment.ensures.shorter, c.items.invariant.shorter);
    }

pub items-preserved-in-Run : goal.items-preserved-in-Run
items-preserved-in-Run g c =
    let step = g.P.Parts.step c.args.parts.now in
    let kept = kept_of (g.P.Parts.value c.items.parts) c.items.seen.kept in
    record {
      left = ap (λ b. read_as (seen step kept (c.items.seen.white && b)) (nodes c.args.level.total c.args.level.depth c.args.name.now c.in-Run.more.now)) c.is_all_white.ensures.white
          ∙ sym (seen_run step kept c.items.seen.white c.args.level.total c.args.level.depth c.args.name.now c.items.rest.now c.in-Run.raw.now c.in-Run.more.now c.in-Run.ensures.item) ∙ c.items.invariant.left;
      same = c.items.invariant.same;
      shorter = omega (arith, c.in-Run.ensures.shorter, c.items.invariant.shorter);
    }

pub items-preserved : goal.items-preserved
items-preserved g c =
    let total = c.args.level.total in
    let depth = c.args.level.depth in
    let step = g.P.Parts.step c.args.parts.now in
    let kept = kept_of (g.P.Parts.value c.items.parts) c.items.seen.kept in
    let now = kept_of (g.P.Parts.value c.next_child.new.parts) c.in-Ok.kept in
    let tag = tag_view c.in-Open.field-0 in
    let more = c.in-Open.field-1.now in
    let child = c.in-Ok.ensures.child ∙ ap (λ s. read_as (stepped s kept (total - length c.items.rest.now) tag) (inner total depth tag more)) c.items.invariant.same in
    record {
      left = sym (seen_open step kept c.items.seen.white total depth c.args.name.now c.items.rest.now tag more now c.in-Ok.behind.now c.in-Open.ensures.item c.if-level-ge-DEEPEST.false child) ∙ c.items.invariant.left;
      same = c.next_child.ensures.same ∙ c.items.invariant.same;
      shorter = omega (arith, c.in-Ok.ensures.shorter, c.in-Open.ensures.shorter, c.items.invariant.shorter);
    }

pub returns-in-Err-clause-seen : goal.returns-in-Err-clause-seen
returns-in-Err-clause-seen g c =
    let total = c.args.level.total in
    let depth = c.args.level.depth in
    let step = g.P.Parts.step c.args.parts.now in
    let kept = kept_of (g.P.Parts.value c.items.parts) c.items.seen.kept in
    let place = total - length c.items.rest.now in
    let tag = tag_view c.in-Open.field-0 in
    let more = c.in-Open.field-1.now in
    child_fails (seen step kept c.items.seen.white) (stepped step kept place tag) total depth c.args.name.now c.items.rest.now tag more _ c.in-Err.error c.in-Open.ensures.item c.if-level-ge-DEEPEST.false c.items.invariant.left
    (subst (λ s. Fails c.in-Err.error (read_as (stepped s kept place tag) (inner total depth tag more))) c.items.invariant.same c.in-Err.ensures.child)

pub returns-in-Open-clause-seen : goal.returns-in-Open-clause-seen
returns-in-Open-clause-seen g c =
    let so_far = seen (g.P.Parts.step c.args.parts.now) (kept_of (g.P.Parts.value c.items.parts) c.items.seen.kept) c.items.seen.white in
    sym (read_deep so_far c.args.level.total c.args.level.depth c.args.name.now c.items.rest.now (tag_view c.in-Open.field-0) c.in-Open.field-1.now c.in-Open.ensures.item c.if-level-ge-DEEPEST.true)
    ∙ c.items.invariant.left
