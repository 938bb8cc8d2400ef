use Rattle.std.proofs.Common.{◌≡◌, ◌∙◌, ◌/◌, ap, min, arith}
use Rattle.strip_copies.specs.Portions.{samples_in, share_by_samples}
use Rattle.strip_copies.proofs.Shared.{fewer_fit}
use Rattle.strip_copies.proofs.portions.share_of_each.Goals as goal

pub returns-clause-share : goal.returns-clause-share
returns-clause-share c =
    let share = c.share_by_samples-share.ensures.share in
    let bands = c.count-bands.ensures.count in
    c.min.ensures ∙ ap (λ n. min n (4096 / c.count-bands.result)) share
    ∙ ap (λ n. min (share_by_samples c.args.form c.args.workers c.args.plan.now) (4096 / n)) bands

pub returns-clause-bound : goal.returns-clause-bound
returns-clause-bound c =
    let is : c.min.result ≡ min c.share_by_samples-share.result (4096 / c.count-bands.result) = c.min.ensures in
    fewer_fit c.args.workers c.min.result c.share_by_samples-share.result (samples_in c.args.form c.args.plan.now) 16777216 (omega (arith, is)) c.share_by_samples-share.ensures.bound
