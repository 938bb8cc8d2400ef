use Rattle.std.proofs.Common.{subst, sym, ◌≡◌, ◌∙◌, ◌+◌, ◌-◌, ◌≤◌, ap, arith, length, length-append, [], ◌∷◌}
use Rattle.geotransform.specs.Pixels.{within}
use Rattle.translate_plan.specs.Plan.{shown_column, Planned}
use Rattle.strip_copies.specs.Columns.{column_at}
use Rattle.strip_copies.proofs.Grown.{push_more}
use Rattle.strip_copies.proofs.Samples.{held_within}
use Rattle.strip_copies.proofs.columns.Columns.new.Goals as goal

pub loop-column-preserved : goal.loop-column-preserved
loop-column-preserved c =
    let before = c.loop-column.invariant in
    let more = c.in_ok-push.ensures.items in
    record {
      long = ap length more ∙ length-append c.loop-column.places.items (c.column_place.result ∷ []) ∙ ap (λ n. n + 1) before.long;
      each = push_more (λ i n. within c.args.width (shown_column c.args.plan.now i) ≡ column_at c.held_to-first.result (c.held_to-end.result - c.held_to-first.result) n) c.loop-column.places.items c.push.new.self.items c.loop-column.column c.column_place.result before.long more before.each c.column_place.ensures.place;
    }

pub returns-clause-columns : goal.returns-clause-columns
returns-clause-columns c =
    let wide = ap (λ (p : Planned). p.size.w) c.plan.view_is in
    let first : c.held_to-first.result ≤ c.args.width = subst (λ n. n ≤ c.args.width) (sym c.held_to-first.ensures.nearest) (held_within c.args.width _) in
    let end : c.held_to-end.result ≤ c.args.width = subst (λ n. n ≤ c.args.width) (sym c.held_to-end.ensures.nearest) (held_within c.args.width _) in
    let all = c.loop-column-test.false in
    let most = c.loop-column.auto.column-end in
    let before = c.loop-column.invariant in
    record {
      inside = omega (arith, first, end);
      long = omega (arith, before.long, wide, all, most);
      each = λ i less. before.each i (omega (arith, less, wide, all));
    }
