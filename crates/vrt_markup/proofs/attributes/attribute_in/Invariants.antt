use Rattle.std.proofs.Common.{◌≡◌, length}
use Rattle.vrt_markup.specs.Items.{pairs, attribute}
use Rattle.vrt_markup.proofs.attributes.attribute_in.Given as goal

abbrev pub invariant-loop-pair : goal.invariant-loop-pair
invariant-loop-pair l = attribute l.name (pairs l.rest).0 ≡ attribute l.name (pairs l.text).0

abbrev pub decreases-loop-pair : goal.decreases-loop-pair
decreases-loop-pair l = length l.rest
