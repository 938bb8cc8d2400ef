use Rattle.std.proofs.Common.{arith, sym, ◌∙◌}
use Rattle.vrt_markup.specs.Views.{tag_view}
use Rattle.vrt_markup.proofs.Behind.{past_open, past_fails}
use Rattle.vrt_markup.proofs.past.+past.Goals as goal

pub past_nodes-items-preserved : goal.past_nodes-items-preserved
past_nodes-items-preserved t c = record {
  left = sym (past_open c.args.total c.args.depth c.args.name.now c.items.rest.now (tag_view c.in-Open.tag) c.in-Open.more.now c.in-Ok.behind.now c.in-Open.ensures.item c.if-depth-ge-DEEPEST.false c.in-Ok.ensures.rest) ∙ c.items.invariant.left;
  shorter = omega (arith, c.in-Ok.ensures.shorter, c.in-Open.ensures.shorter, c.items.invariant.shorter);
}

pub past_nodes-returns-in-Err-clause-rest : goal.past_nodes-returns-in-Err-clause-rest
past_nodes-returns-in-Err-clause-rest t c = past_fails c.args.total c.args.depth c.args.name.now c.items.rest.now (tag_view c.in-Open.tag) c.in-Open.more.now _ c.in-Err.fault c.in-Open.ensures.item c.if-depth-ge-DEEPEST.false c.items.invariant.left c.in-Err.ensures.rest
