use Rattle.std.proofs.Common.{ap, arith, length, subst, sym, ◌∙◌, ◌+◌, List, ℕ}
use Rattle.std.specs.List.{sum_by}
use Rattle.mosaic_sources.specs.Stretches.{AreListsOf, holding_lines, total_held}
use Rattle.mosaic_sources.specs.declared.spans.Span.{Span}
use Rattle.mosaic_sources.proofs.Listed.{by_lines, listed_is, lists_are, lists_to}
use Rattle.mosaic_sources.proofs.lists.lists_within.Goals as goal

pub returns-then-total_of-gt-MOST_LISTED-clause-long : goal.returns-then-total_of-gt-MOST_LISTED-clause-long
returns-then-total_of-gt-MOST_LISTED-clause-long c = λ none.
    let cuts = c.args.cuts.now in
    let stretches = c.in_ok-stretches.stretches.items in
    let listed = listed_is stretches 0 (length cuts + 1) c.in_ok-stretches.ensures.within in
    let total = c.total_of.ensures.total ∙ ap (λ (s : List Span). total_held s) c.as_slice.ensures.value in
    (lists_to stretches 0 (length cuts + 1), (by_lines cuts c.args.height c.args.spans.now stretches c.in_ok-stretches.ensures.held c.in_ok-stretches.ensures.within c.in_ok-stretches.ensures.none, omega (arith, listed, total, c.if-total_of-gt-MOST_LISTED.true)))

pub returns-clause-lists : goal.returns-clause-lists
returns-clause-lists c =
    let cuts = c.args.cuts.now in
    let stretches = c.in_ok-stretches.stretches.items in
    let lists = c.in_ok-lists_of.field-0.items in
    let more = c.in_ok-lists_of.ensures in
    let same = lists_are stretches (length cuts + 1) lists more.count (λ k less. more.lists k less ∙ ap (λ (s : List Span). holding_lines s k) c.as_slice-2.ensures.value) in
    subst (AreListsOf cuts c.args.height c.args.spans.now) (sym same) (by_lines cuts c.args.height c.args.spans.now stretches c.in_ok-stretches.ensures.held c.in_ok-stretches.ensures.within c.in_ok-stretches.ensures.none)

pub returns-clause-short : goal.returns-clause-short
returns-clause-short c =
    let cuts = c.args.cuts.now in
    let stretches = c.in_ok-stretches.stretches.items in
    let lists = c.in_ok-lists_of.field-0.items in
    let more = c.in_ok-lists_of.ensures in
    let listed = listed_is stretches 0 (length cuts + 1) c.in_ok-stretches.ensures.within in
    let total = c.total_of.ensures.total ∙ ap (λ (s : List Span). total_held s) c.as_slice.ensures.value in
    let same = ap (λ (l : List (List ℕ)). sum_by length l) (lists_are stretches (length cuts + 1) lists more.count (λ k less. more.lists k less ∙ ap (λ (s : List Span). holding_lines s k) c.as_slice-2.ensures.value)) in
    omega (arith, same, listed, total, c.if-total_of-gt-MOST_LISTED.false)
