use Rattle.std.proofs.Common.{arith}
use Rattle.strip_copies.specs.Portions.{samples_in}
use Rattle.strip_copies.proofs.Shared.{fewer_fit, portions_found, portions_missed}
use Rattle.strip_copies.proofs.portions.portions_in.Goals as goal

pub returns-clause-portions : goal.returns-clause-portions
returns-clause-portions c =
    portions_found c.args.form c.args.workers c.args.translation.now.cat c.args.translation.now.plan c.share_of_each-most.result c.extent_of-extent.result c.rows_of-rows.result c.step_of-step.result
    (omega arith) c.share_of_each-most.ensures.share c.extent_of-extent.ensures.extent c.rows_of-rows.ensures.rows c.step_of-step.ensures.step

pub returns-clause-bound : goal.returns-clause-bound
returns-clause-bound c =
    fewer_fit c.args.workers c.rows_of-rows.result c.share_of_each-most.result (samples_in c.args.form c.args.translation.now.plan) 16777216 c.rows_of-rows.ensures.few c.share_of_each-most.ensures.bound

pub returns-then-most-eq0-clause-portions : goal.returns-then-most-eq0-clause-portions
returns-then-most-eq0-clause-portions c =
    portions_missed c.args.form c.args.workers c.args.translation.now.cat c.args.translation.now.plan c.share_of_each-most.result c.if-most-eq0.true c.share_of_each-most.ensures.share
