use Rattle.std.proofs.Common.{◌≡◌, ◌≤◌, length, [], None}
use Rattle.vrt_markup.specs.Forest.{nodes, read_as}
use Rattle.vrt_markup.specs.Kept.{worded}
use Rattle.vrt_markup.proofs.text.text_nodes.Given as goal

abbrev pub invariant-loop-text : goal.invariant-loop-text
invariant-loop-text l = record { left : read_as (worded l.text.items l.child) (nodes l.total l.depth l.name l.rest) ≡ read_as (worded [] None) (nodes l.total l.depth l.name l.bytes); shorter : length l.rest ≤ length l.bytes }

abbrev pub decreases-loop-text : goal.decreases-loop-text
decreases-loop-text l = length l.rest
