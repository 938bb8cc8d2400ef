use Rattle.std.proofs.Common.{◌≡◌, length}
use Rattle.std.specs.List.{All}
use Rattle.output_copies.proofs.worker.packed_room.Given as goal

-- the blocks so far
abbrev pub invariant-loop-at : goal.invariant-loop-at
invariant-loop-at l = record {
  count : length l.packed.items ≡ l._at;
  each : All (λ bytes. length bytes ≡ l.len) l.packed.items;
}
