use Rattle.std.proofs.Common.{◌≡◌, ◌≤◌, map, length}
use Rattle.vrt_markup.specs.Items.{pairs}
use Rattle.vrt_markup.specs.Keys.{last_number_of, spreads}
use Rattle.vrt_markup.specs.Attributes.{spread_view}
use Rattle.vrt_markup.proofs.attributes.behind_rising.Given as goal

abbrev pub invariant-loop-pair : goal.invariant-loop-pair
invariant-loop-pair l = record { rising : spreads (spread_view l.spread) (map last_number_of (pairs l.rest).0) ≡ spreads (spread_view l.initial.spread) (map last_number_of (pairs l.text).0); left : (pairs l.rest).1 ≡ (pairs l.text).1; shorter : length l.rest ≤ length l.text }

abbrev pub decreases-loop-pair : goal.decreases-loop-pair
decreases-loop-pair l = length l.rest
