use Rattle.std.proofs.Common.{◌+◌, ◌-◌, ◌<◌, ◌≤◌, get_or, true, ℕ}
use Rattle.std.specs.List.{All}
use Rattle.band_blocks.specs.Blocks.{BlockView}
use Rattle.output_copies.specs.Packed.{AreColumnFronts, HoldsFront, IsBlockFor}
use Rattle.output_copies.proofs.records.put_columns.Given as goal

-- the columns so far
abbrev pub invariant-loop-at : goal.invariant-loop-at
invariant-loop-at g l = record {
  blocks : All (IsBlockFor l.task.packing) l.records;
  done : AreColumnFronts g.S.Scene.told l.task.translation.now.cat l.task.translation.now.id l.task.translation.now.plan l.task.packing l.piece.left l.at l.piece.end l.records;
  rest : (i : ℕ) (d : BlockView) → l.at ≤ i → i < l.piece.right - l.piece.left → HoldsFront g.S.Scene.told l.task.translation.now.cat l.task.translation.now.id l.task.translation.now.plan true 0 (l.piece.left + i) l.piece.first (get_or l.records i d).samples;
}
