use Rattle.std.proofs.Common.{◌≡◌, ◌≤◌, ◌*◌, ap, arith}
use Rattle.translate_plan.specs.Plan.{Planned}
use Rattle.strip_copies.proofs.Shared.{all_few}
use Rattle.strip_copies.proofs.portions.samples_of.Goals as goal

pub overflow_mul-result : goal.overflow_mul-result
overflow_mul-result c =
    let high : c.plan.inside.size.h ≡ c.args.plan.now.size.h = ap (λ (q : Planned). q.size.h) c.plan.view_is in
    let lines = c.rules.ensures.kept.size.lines in
    let few : c.line_of-line.result * c.plan.inside.size.h ≤ 4503599627370496 = all_few c.line_of-line.result c.plan.inside.size.h c.line_of-line.ensures.few (omega arith) in
    omega arith
