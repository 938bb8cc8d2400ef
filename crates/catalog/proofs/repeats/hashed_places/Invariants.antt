use Rattle.std.proofs.Common.{◌≡◌, length}
use Rattle.catalog.proofs.repeats.hashed_places.Given as goal

abbrev pub invariant-loop-at : goal.invariant-loop-at
invariant-loop-at l = length l.hashed.items ≡ l.at
