use Rattle.std.proofs.Common.{arith, ap, sym, ◌∙◌}
use Rattle.vrt_markup.specs.Forest.{nodes, inner, read_as}
use Rattle.vrt_markup.specs.Kept.{worded}
use Rattle.vrt_markup.specs.Views.{tag_view}
use Rattle.vrt_markup.proofs.Reading.{worded_open, child_fails, past_read_fails}
use Rattle.vrt_markup.proofs.text.text_nodes.Goals as goal

pub loop-text-preserved : goal.loop-text-preserved
loop-text-preserved c = record {
  left = ap (λ child. read_as (worded c.loop-text.text.items child) (nodes c.args.total c.args.depth c.args.name.now c.in-Ok.behind.now)) c.first_child-child.ensures.first
      ∙ sym (worded_open c.loop-text.text.items c.loop-text.child c.args.total c.args.depth c.args.name.now c.loop-text.rest.now (tag_view c.in-Open.field-0) c.in-Open.field-1.now c.in-Ok.behind.now c.in-Open.ensures.item c.if-depth-ge-DEEPEST.false c.in-Ok.ensures.rest)
      ∙ c.loop-text.invariant.left;
  shorter = omega (arith, c.in-Ok.ensures.shorter, c.in-Open.ensures.shorter, c.loop-text.invariant.shorter);
}

pub returns-in-Err-clause-text : goal.returns-in-Err-clause-text
returns-in-Err-clause-text c =
    let tag = tag_view c.in-Open.field-0 in
    let g = worded c.loop-text.text.items c.loop-text.child in
    child_fails g g c.args.total c.args.depth c.args.name.now c.loop-text.rest.now tag c.in-Open.field-1.now _ c.in-Err.error c.in-Open.ensures.item c.if-depth-ge-DEEPEST.false c.loop-text.invariant.left (past_read_fails g c.in-Err.error (inner c.args.total c.args.depth tag c.in-Open.field-1.now) c.in-Err.ensures.rest)
