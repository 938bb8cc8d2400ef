use Rattle.std.proofs.Common.{◌≡◌, length}
use Rattle.mosaic_sources.proofs.lists.count_between.Given as goal

abbrev pub invariant-loop-at : goal.invariant-loop-at
invariant-loop-at l = length l.counts.items ≡ length l.initial.counts.items
