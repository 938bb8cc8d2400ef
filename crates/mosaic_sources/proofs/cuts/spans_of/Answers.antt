use Rattle.std.proofs.Common.{arith, sym, ap, ◌∙◌, length, length-append, ◌≤◌, ◌∷◌, []}
use Rattle.std.proofs.lemmas.List.Elements.{All-push}
use Rattle.mosaic_sources.specs.declared.spans.Span.{Span}
use Rattle.mosaic_sources.specs.Rows.{covers_line, is_in_span}
use Rattle.mosaic_sources.proofs.Passing.{passing_both}
use Rattle.mosaic_sources.proofs.cuts.spans_of.Goals as goal

pub loop-source-preserved : goal.loop-source-preserved
loop-source-preserved c =
    let more = c.in_ok-push.ensures.items in
    let before = c.loop-source.invariant in
    let i = c.loop-source.source-index in
    let s = c.source-item.result in
    record {
      count = omega (arith, ap length more, length-append c.loop-source.spans.items (c.line_span.result ∷ []), before.count);
      within = rw more (All-push (λ (s : Span). s.end ≤ c.args.size.h) c.loop-source.spans.items c.line_span.result before.within c.line_span.ensures.within);
      lists = λ y less. passing_both (λ s. is_in_span s y) (λ s. covers_line s c.args.size y) c.loop-source.spans.items c.push.new.self.items c.args.sources.now i c.line_span.result s c.loop-source-test.true before.count (before.lists y less) (sym (c.line_span.ensures.covered y less) ∙ ap (λ s. covers_line s c.args.size y) c.source-item.is) more;
    }
