use Rattle.std.proofs.lemmas.List.Filters.{dedup_is, All-dedup}
use Rattle.std.proofs.lemmas.List.Kept.{Contains-dedup_nat}
use Rattle.std.proofs.lemmas.List.Sorted.{Contains-permutation, All-permutation}
use Rattle.std.proofs.lemmas.List.Elements.{All-weaker, All-contains}
use Rattle.std.proofs.lemmas.Map.Keys.{IsStrictlyIncreasing-dedup}
use Rattle.mosaic_sources.specs.Rows.{IsInner}
use Rattle.mosaic_sources.specs.Stretches.{HasEdges, IsEdgeOfOne}
use Rattle.mosaic_sources.proofs.Held.{edges_kept, cut_changes}
use Rattle.mosaic_sources.proofs.cuts.cuts_of.Goals as goal

pub returns-clause-rising : goal.returns-clause-rising
returns-clause-rising c =
    let is = dedup_is _ _ _ c.dedup.ensures.filtered in
    rw is (IsStrictlyIncreasing-dedup _ c.sort_unstable.ensures.sorted)

pub returns-clause-inner : goal.returns-clause-inner
returns-clause-inner c =
    let is = dedup_is _ _ _ c.dedup.ensures.filtered in
    rw is (All-dedup _ (IsInner c.args.height) _ (All-permutation (IsInner c.args.height) _ _ c.sort_unstable.ensures.permutation c.in_ok-edges.ensures.inner))

pub returns-clause-edges : goal.returns-clause-edges
returns-clause-edges c =
    let is = dedup_is _ _ _ c.dedup.ensures.filtered in
    All-weaker (HasEdges c.in_ok-edges.edges.items c.args.height) (HasEdges c.dedup.new.self.items c.args.height) (λ s h. edges_kept c.in_ok-edges.edges.items c.dedup.new.self.items c.args.height s (λ x there. rw is (Contains-dedup_nat _ x (Contains-permutation _ _ x c.sort_unstable.ensures.permutation there))) h) c.args.spans.now c.in_ok-edges.ensures.edges

pub returns-clause-changes : goal.returns-clause-changes
returns-clause-changes c =
    let is = dedup_is _ _ _ c.dedup.ensures.filtered in
    let spans = c.args.spans.now in
    let moved = c.sort_unstable.ensures.permutation in
    λ y there same.
    let there' = rw is at there in
    let inner = All-contains (IsInner c.args.height) _ y (All-dedup _ (IsInner c.args.height) _ (All-permutation (IsInner c.args.height) _ _ moved c.in_ok-edges.ensures.inner)) there' in
    let edge = All-contains (IsEdgeOfOne spans) _ y (All-dedup _ (IsEdgeOfOne spans) _ (All-permutation (IsEdgeOfOne spans) _ _ moved c.in_ok-edges.ensures.from)) there' in
    cut_changes spans y edge inner.low same
