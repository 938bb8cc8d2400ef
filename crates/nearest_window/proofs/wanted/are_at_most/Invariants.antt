use Rattle.std.proofs.Common.{◌-◌}
use Rattle.nearest_window.proofs.wanted.are_at_most.Given as goal

abbrev pub decreases-loop-y : goal.decreases-loop-y
decreases-loop-y l = l.end - l.y
