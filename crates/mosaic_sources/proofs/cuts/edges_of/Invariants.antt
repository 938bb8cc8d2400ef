use Rattle.std.proofs.Common.{◌*◌, ◌≤◌, length, take}
use Rattle.std.specs.List.{All}
use Rattle.mosaic_sources.specs.Rows.{IsInner}
use Rattle.mosaic_sources.specs.Stretches.{HasEdges, IsEdgeOfOne}
use Rattle.mosaic_sources.proofs.cuts.edges_of.Given as goal

abbrev pub invariant-loop-span : goal.invariant-loop-span
invariant-loop-span l = record {
  count : length l.edges.items ≤ 2 * l.span-index;
  inner : All (IsInner l.height) l.edges.items;
  from : All (IsEdgeOfOne l.spans) l.edges.items;
  edges : All (HasEdges l.edges.items l.height) (take l.span-index l.spans);
}
