use Rattle.std.proofs.Common.{rules, ◌≡◌, ◌∙◌, ◌<◌, pos, length, get_or, to_z, of_z, ap, arith}
use mir.Syntax.{w128}
use Rattle.std.proofs.lemmas.List.{get_or-set_other}
use Rattle.strip_copies.specs.Rows.{nearest}
use Rattle.strip_copies.proofs.Grown.{set_more}
use Rattle.strip_copies.proofs.direct.hold_all.Goals as goal

pub loop-at-preserved : goal.loop-at-preserved
loop-at-preserved c =
    let was = c.loop-at.invariant in
    let at = c.loop-at.at in
    let same : to_z w128 (of_z w128 c.hold.result) ≡ c.hold.result = search rules in
    let read : to_z w128 (of_z w128 (get_or c.loop-at.samples at (pos 0))) ≡ get_or c.loop-at.samples at (pos 0) = search rules in
    let inside : at < length c.loop-at.samples = omega arith in
    record {
      held =
          set_more (λ i v. v ≡ nearest c.args.holding.least c.args.holding.most (get_or c.args.samples.now i (pos 0))) c.loop-at.samples at (to_z w128 (of_z w128 c.hold.result)) inside was.held
          (same ∙ c.hold.ensures.nearest ∙ ap (nearest c.args.holding.least c.args.holding.most) (read ∙ was.rest at (omega arith)));
      rest = λ i later. get_or-set_other c.loop-at.samples at i (to_z w128 (of_z w128 c.hold.result)) (pos 0) (λ z. absurd (omega arith)) ∙ was.rest i (omega arith);
    }
