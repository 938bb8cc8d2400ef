use Rattle.std.proofs.Common.{◌≡◌, ℕ, [], ◌<◌, get_or, length, take}
use Rattle.mosaic_sources.specs.Stretches.{holding_lines}
use Rattle.mosaic_sources.proofs.lists.lists_of.Given as goal

abbrev pub invariant-loop-number : goal.invariant-loop-number
invariant-loop-number l = record {
  count : length l.lists.items ≡ l.count;
  lists : (k : ℕ) → k < l.count → get_or l.lists.items k [] ≡ holding_lines (take l.number l.stretches) k;
}
