use Rattle.std.proofs.Common.{◌≡◌, length}
use Rattle.std.specs.List.{All}
use Rattle.band_blocks.specs.Blocks.{BlockView}
use Rattle.output_copies.proofs.worker.block_room.Given as goal

-- the blocks so far
abbrev pub invariant-loop-at : goal.invariant-loop-at
invariant-loop-at l = record {
  count : length l.blocks.items ≡ l._at;
  each : All (λ (block : BlockView). (block.kind ≡ l.kind) × (length block.samples ≡ l.len)) l.blocks.items;
}
