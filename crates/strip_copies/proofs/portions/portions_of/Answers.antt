use Rattle.std.proofs.Common.{◌∙◌, ◌≤◌, ◌*◌, sym, subst}
use Rattle.std.specs.Prelude.{IfSome}
use Rattle.strip_copies.specs.Portions.{samples_in}
use Rattle.strip_copies.proofs.Shared.{portions_cost, portions_pay}
use Rattle.strip_copies.proofs.portions.portions_of.Goals as goal

pub returns-then-pays-clause-portions : goal.returns-then-pays-clause-portions
returns-then-pays-clause-portions c = λ d at.
    portions_pay c.get-count.result _ c.args.translation.now.cat d c.args.translation.now.plan c.portions_by.result c.get-count.ensures.value (sym c.pays.ensures.pays ∙ c.if-pays.true) (c.portions_by.ensures.portions d at)

pub returns-then-pays-clause-bound : goal.returns-then-pays-clause-bound
returns-then-pays-clause-bound c =
    subst (λ n. IfSome c.portions_by.result (λ s. n * (s.rows * samples_in s.form c.args.translation.now.plan) ≤ 16777216)) c.get-count.ensures.value c.portions_by.ensures.bound

pub returns-else-pays-clause-portions : goal.returns-else-pays-clause-portions
returns-else-pays-clause-portions c = λ d at.
    portions_cost c.get-count.result _ c.args.translation.now.cat d c.args.translation.now.plan c.get-count.ensures.value (sym c.pays.ensures.pays ∙ c.if-pays.false)
