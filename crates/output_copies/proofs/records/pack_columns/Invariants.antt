use Rattle.std.proofs.Common.{◌≡◌, ◌<◌, ◌≤◌, length, ℕ}
use Rattle.std.specs.List.{All}
use Rattle.write_back.specs.Packed.{block_len}
use Rattle.output_copies.specs.Packed.{IsMade}
use Rattle.output_copies.proofs.records.pack_columns.Given as goal

-- the columns so far
abbrev pub invariant-loop-x : goal.invariant-loop-x
invariant-loop-x g l = record {
  each : All (λ bytes. length bytes ≡ block_len l.task.packing) l.packed;
  done : (y : ℕ) → l.portion.top ≤ y → y < l.x → IsMade g.S.Scene.told l.task.translation.now.cat l.task.translation.now.id l.task.translation.now.plan l.task.packing l.portion.top l.packed 0 y;
}
