use Rattle.std.proofs.Common.{◌≡◌, ◌++◌, ◌≤◌, map, length}
use Rattle.vrt_markup.specs.Items.{pairs}
use Rattle.vrt_markup.specs.Keys.{number_of}
use Rattle.vrt_markup.proofs.attributes.numbers_of.Given as goal

abbrev pub invariant-loop-pair : goal.invariant-loop-pair
invariant-loop-pair l = record { numbers : l.numbers.items ++ map number_of (pairs l.rest).0 ≡ map number_of (pairs l.text).0; left : (pairs l.rest).1 ≡ (pairs l.text).1; shorter : length l.rest ≤ length l.text }

abbrev pub decreases-loop-pair : goal.decreases-loop-pair
decreases-loop-pair l = length l.rest
