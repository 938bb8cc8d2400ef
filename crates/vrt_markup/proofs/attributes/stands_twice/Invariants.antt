use Rattle.std.proofs.Common.{◌≡◌, false, length}
use Rattle.vrt_markup.specs.Items.{pairs, is_distinct}
use Rattle.vrt_markup.proofs.attributes.stands_twice.Given as goal

abbrev pub invariant-loop-pair : goal.invariant-loop-pair
invariant-loop-pair l = is_distinct (pairs l.rest).0 ≡ false → is_distinct (pairs l.text).0 ≡ false

abbrev pub decreases-loop-pair : goal.decreases-loop-pair
decreases-loop-pair l = length l.rest
