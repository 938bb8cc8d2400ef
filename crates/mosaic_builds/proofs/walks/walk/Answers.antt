use Rattle.mosaic_builds.proofs.Walked.{may_walk}
use Rattle.mosaic_builds.proofs.walks.walk.Goals as goal

pub returns-in-Err-clause-faults : goal.returns-in-Err-clause-faults
returns-in-Err-clause-faults g c = λ out. rw c.from.ensures (may_walk c.in-Err.fault c.in-Err.ensures.unknown.only c.in-Err.ensures.own out)
