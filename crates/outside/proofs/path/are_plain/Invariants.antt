use Rattle.std.proofs.Common.{◌≡◌, length, true}
use Rattle.outside.specs.Plain.{are_plain}
use Rattle.outside.proofs.path.are_plain.Given as goal

abbrev pub invariant-loop-rest : goal.invariant-loop-rest
invariant-loop-rest l = are_plain true l.rest ≡ are_plain true l.text

abbrev pub decreases-loop-rest : goal.decreases-loop-rest
decreases-loop-rest l = length l.rest
