use Rattle.std.proofs.Common.{◌≡◌, ◌≤◌, length}
use Rattle.vrt_markup.specs.Tree.{space}
use Rattle.vrt_markup.proofs.root.space.Given as goal

abbrev pub invariant-items : goal.invariant-items
invariant-items l = record { left : space l.total l.rest ≡ space l.total l.bytes; shorter : length l.rest ≤ length l.bytes }

abbrev pub decreases-items : goal.decreases-items
decreases-items l = length l.rest
