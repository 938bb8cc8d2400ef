use Rattle.std.proofs.Common.{length}
use Rattle.outside.specs.Plain.{adds_all}
use Rattle.outside.proofs.path.behind_parents.Given as goal

abbrev pub invariant-loop-more : goal.invariant-loop-more
invariant-loop-more l = adds_all l.rest → adds_all l.text

abbrev pub decreases-loop-more : goal.decreases-loop-more
decreases-loop-more l = length l.rest
