use Rattle.std.proofs.Common.{◌≡◌, ◌≤◌, length}
use Rattle.vrt_markup.specs.Fronts.{root_behind}
use Rattle.vrt_markup.proofs.root.root_behind.Given as goal

abbrev pub invariant-items : goal.invariant-items
invariant-items l = record { left : root_behind l.total l.rest ≡ root_behind l.total l.bytes; shorter : length l.rest ≤ length l.bytes }

abbrev pub decreases-items : goal.decreases-items
decreases-items l = length l.rest
