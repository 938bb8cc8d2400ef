use Rattle.output_copies.specs.Packed.{AreFronts, AreMade, ArePacks}
use Rattle.output_copies.proofs.pieces.pack_rows.Given as goal

-- the rows so far
abbrev pub invariant-loop-line : goal.invariant-loop-line
invariant-loop-line g l = record {
  packs : ArePacks l.task.translation.now.plan l.task.packing l.task.rows l.block l.packed;
  made : AreMade g.S.Scene.told l.task.translation.now.cat l.task.translation.now.id l.task.translation.now.plan l.task.packing l.top l.packed l.piece.first l.piece.end l.piece.band;
  done : AreFronts g.S.Scene.told l.task.translation.now.cat l.task.translation.now.id l.task.translation.now.plan l.task.packing l.top l.packed l.piece.first l.line l.piece.band l.piece.right;
  rest : AreFronts g.S.Scene.told l.task.translation.now.cat l.task.translation.now.id l.task.translation.now.plan l.task.packing l.top l.packed l.line l.piece.end l.piece.band l.piece.left;
}
