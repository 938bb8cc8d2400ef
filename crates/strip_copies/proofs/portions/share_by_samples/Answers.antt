use Rattle.std.proofs.Common.{◌≤◌, ◌*◌, ◌/◌, subst, arith}
use Rattle.strip_copies.proofs.Shared.{share_few, shares_fit}
use Rattle.strip_copies.proofs.portions.share_by_samples.Goals as goal

pub overflow_cast-result : goal.overflow_cast-result
overflow_cast-result c =
    let few = share_few c.most_of-most.result c.args.workers c.samples_in-samples.result in
    let most = c.most_of-most.ensures.few in
    omega arith

pub returns-clause-share : goal.returns-clause-share
returns-clause-share c =
    let most = c.most_of-most.ensures.most in
    let samples = c.samples_in-samples.ensures.samples in
    cc

pub returns-clause-bound : goal.returns-clause-bound
returns-clause-bound c =
    subst (λ n. c.args.workers * (c.most_of-most.result / c.args.workers / c.samples_in-samples.result * n) ≤ 16777216) c.samples_in-samples.ensures.samples
    (shares_fit c.most_of-most.result c.args.workers c.samples_in-samples.result 16777216 c.most_of-most.ensures.few)
