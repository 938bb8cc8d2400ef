use Rattle.std.proofs.Common.{arith, ap, ◌≡◌, ◌+◌, length, length-append, ◌∷◌, []}
use Rattle.std.proofs.lemmas.List.Elements.{All-push}
use Rattle.mosaic_sources.specs.declared.spans.Span.{Span}
use Rattle.mosaic_sources.specs.Rows.{stretch_of, is_in_span}
use Rattle.mosaic_sources.specs.Stretches.{IsWithinCount}
use Rattle.mosaic_sources.proofs.Held.{flat}
use Rattle.mosaic_sources.proofs.Passing.{passing_both}
use Rattle.mosaic_sources.proofs.stretches.all_stretches.Goals as goal

pub loop-span-preserved : goal.loop-span-preserved
loop-span-preserved c =
    let more = c.in_ok-push.ensures.items in
    let before = c.loop-span.invariant in
    let i = c.loop-span.span-index in
    let old = c.loop-span.stretches.items in
    let cuts = c.args.cuts.now in
    record {
      count = omega (arith, ap length more, length-append old (c.stretches_of.result ∷ []), before.count);
      within = rw more (All-push (IsWithinCount (length cuts + 1)) old c.stretches_of.result before.within c.stretches_of.ensures.within);
      held = λ y less. passing_both (λ s. is_in_span s (stretch_of cuts y)) (λ s. is_in_span s y) old c.push.new.self.items c.args.spans.now i c.stretches_of.result _ c.loop-span-test.true before.count (before.held y less) (c.stretches_of.ensures.held y less) more;
      none = λ e. rw more (All-push (λ (s : Span). s.end ≡ 0) old c.stretches_of.result (before.none e) (c.stretches_of.ensures.none (flat c.args.spans.now i _ c.args.height c.requires.ends c.loop-span-test.true e)));
    }
