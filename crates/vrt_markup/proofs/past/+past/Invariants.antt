use Rattle.std.proofs.Common.{◌≡◌, ◌≤◌, ◌+◌, ◌-◌, ◌*◌, length}
use Rattle.vrt_markup.specs.Forest.{nodes}
use Rattle.vrt_markup.specs.Views.{past}
use Rattle.vrt_markup.proofs.past.+past.Given as goal

abbrev pub decreases-past_element : goal.decreases-past_element
decreases-past_element l = 2 * (64 - l.depth)

abbrev pub decreases-past_nodes : goal.decreases-past_nodes
decreases-past_nodes l = 2 * (64 - l.depth) + 1

abbrev pub invariant-past_nodes-items : goal.invariant-past_nodes-items
invariant-past_nodes-items l = record { left : past (nodes l.total l.depth l.name l.rest) ≡ past (nodes l.total l.depth l.name l.text); shorter : length l.rest ≤ length l.text }

abbrev pub decreases-past_nodes-items : goal.decreases-past_nodes-items
decreases-past_nodes-items l = length l.rest
