use Rattle.std.proofs.Common.{◌≡◌, length}
use Rattle.catalog.proofs.repeats.link_same.Given as goal

abbrev pub invariant-loop-at : goal.invariant-loop-at
invariant-loop-at l = length l.earlier.items ≡ length l.initial.earlier.items
