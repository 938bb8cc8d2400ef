use Rattle.std.proofs.Common.{◌≡◌, ◌∙◌, arith, inl, inr, Some, subst}
use Rattle.std.proofs.lemmas.Bool.{cases_lt}
use Rattle.geotransform.specs.Pixels.{within}
use Rattle.translate_plan.specs.Plan.{shown_line}
use Rattle.strip_copies.proofs.spans.run_from.Goals as goal

pub loop-line-init : goal.loop-line-init
loop-line-init c = record {
  lines = record {
    inside = c.span_of-span.ensures.side c.args.height c.line_at.ensures.inside;
    each = λ j y low high is.
        let same : j ≡ c.args.first = omega arith in
        c.span_of-span.ensures.within y (c.line_at.ensures.place ∙ subst (λ n. within c.args.height (shown_line c.args.plan.now n) ≡ Some y) same is);
  };
  few = omega (arith, c.span_of-span.ensures.few);
}

pub loop-line-preserved : goal.loop-line-preserved
loop-line-preserved c =
    let before = c.loop-line.invariant in
    let o = c.in-Some.ensures in
    record {
      lines = record {
        inside = o.side c.args.height c.line_at-in-loop-line.ensures.inside before.lines.inside;
        each = λ j y low high is. elim (cases_lt j c.loop-line.line) [
          | inl a ↦ o.kept y (before.lines.each j y low a is)
          | inr b ↦
              let same : j ≡ c.loop-line.line = omega arith in
              o.within y (c.line_at-in-loop-line.ensures.place ∙ subst (λ n. within c.args.height (shown_line c.args.plan.now n) ≡ Some y) same is)
        ];
      };
      few = o.few before.few;
    }
