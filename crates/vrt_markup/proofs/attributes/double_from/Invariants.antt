use Rattle.std.proofs.Common.{◌≡◌, length}
use Rattle.vrt_markup.specs.Keys.{double_from}
use Rattle.vrt_markup.proofs.attributes.double_from.Given as goal

abbrev pub invariant-loop-rest : goal.invariant-loop-rest
invariant-loop-rest l = double_from l.last l.rest ≡ double_from l.first l.numbers

abbrev pub decreases-loop-rest : goal.decreases-loop-rest
decreases-loop-rest l = length l.rest
