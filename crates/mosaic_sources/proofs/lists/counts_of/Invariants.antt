use Rattle.std.proofs.Common.{◌≡◌, length}
use Rattle.mosaic_sources.proofs.lists.counts_of.Given as goal

abbrev pub invariant-loop-span : goal.invariant-loop-span
invariant-loop-span l = length l.counts.items ≡ l.count
