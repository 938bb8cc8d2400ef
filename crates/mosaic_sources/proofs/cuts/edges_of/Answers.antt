use Rattle.std.proofs.Common.{sym, arith}
use Rattle.std.proofs.lemmas.List.{take_all}
use Rattle.std.proofs.lemmas.List.Elements.{All-same, All-more, All-weaker}
use Rattle.mosaic_sources.specs.Stretches.{HasEdges}
use Rattle.mosaic_sources.proofs.Held.{edges_kept, edges_from}
use Rattle.mosaic_sources.proofs.cuts.edges_of.Goals as goal

pub loop-span-preserved : goal.loop-span-preserved
loop-span-preserved c =
    let before = c.loop-span.invariant in
    let more = c.in_ok-push_edges.ensures in
    let old = c.loop-span.edges.items in
    let new = c.push_edges.new.edges.items in
    record {
      count = omega (arith, before.count, more.count);
      inner = more.inner before.inner;
      from = edges_from old new c.args.spans.now c.loop-span.span-index _ c.loop-span-test.true more.from before.from;
      edges = All-more (HasEdges new c.args.height) c.args.spans.now c.loop-span.span-index _ c.loop-span-test.true (All-weaker (HasEdges old c.args.height) (HasEdges new c.args.height) (λ s h. edges_kept old new c.args.height s more.kept h) _ before.edges) more.edges;
    }

pub returns-clause-edges : goal.returns-clause-edges
returns-clause-edges c =
    All-same (HasEdges c.loop-span.edges.items c.args.height) _ _ (sym (take_all c.loop-span.span-index c.args.spans.now c.loop-span-test.false)) c.loop-span.invariant.edges
