use Rattle.std.proofs.Common.{◌≡◌, ap, arith}
use Rattle.translate_plan.specs.Plan.{Planned}
use Rattle.strip_copies.proofs.Shared.{line_few, line_some}
use Rattle.strip_copies.proofs.portions.line_of.Goals as goal

pub returns-clause-some : goal.returns-clause-some
returns-clause-some c =
    let p = c.args.plan.now in
    let kept = c.rules.ensures.kept in
    let wide : c.plan.inside.size.w ≡ p.size.w = ap (λ (q : Planned). q.size.w) c.plan.view_is in
    line_some c.plan.inside.size.w c.count-bands.result (let some = kept.size.some_columns in omega arith) (let some = kept.some_band in let count = c.count-bands.ensures.count in omega arith)

pub returns-clause-few : goal.returns-clause-few
returns-clause-few c =
    let p = c.args.plan.now in
    let kept = c.rules.ensures.kept in
    let wide : c.plan.inside.size.w ≡ p.size.w = ap (λ (q : Planned). q.size.w) c.plan.view_is in
    line_few c.plan.inside.size.w c.count-bands.result (let few = kept.size.columns in omega arith) (let few = kept.bands in let count = c.count-bands.ensures.count in omega arith)
