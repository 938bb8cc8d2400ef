use Rattle.std.proofs.Common.{◌≡◌, length, []}
use Rattle.std.specs.List.{All}
use Rattle.mosaic_sources.proofs.lists.empty_lists.Given as goal

abbrev pub invariant-loop-room : goal.invariant-loop-room
invariant-loop-room l = record {
  count : length l.lists.items ≡ l.room-index;
  empty : All (λ list. list ≡ []) l.lists.items;
}
