use Rattle.outside.proofs.Plain.{parent_added}
use Rattle.outside.proofs.path.behind_parents.Goals as goal

pub loop-more-init : goal.loop-more-init
loop-more-init c = λ added. added

pub loop-more-preserved : goal.loop-more-preserved
loop-more-preserved c = λ added. c.loop-more.invariant (parent_added c.loop-more.rest.now c.in-Some.more.now c.in-Some.ensures.parent added)
