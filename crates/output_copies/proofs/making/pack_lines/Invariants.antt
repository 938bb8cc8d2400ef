use Rattle.std.proofs.Common.{◌<◌, ◌≤◌, ℕ}
use Rattle.output_copies.specs.Packed.{AreMade, ArePacks, IsMade}
use Rattle.output_copies.proofs.making.pack_lines.Given as goal

-- the lines so far
abbrev pub invariant-loop-line : goal.invariant-loop-line
invariant-loop-line g l = record {
  packs : ArePacks l.task.translation.now.plan l.task.packing l.task.rows l.block l.packed;
  made : AreMade g.S.Scene.told l.task.translation.now.cat l.task.translation.now.id l.task.translation.now.plan l.task.packing l.top l.packed l.lines.first l.lines.end l.lines.band;
  here : (y : ℕ) → l.lines.first ≤ y → y < l.line → IsMade g.S.Scene.told l.task.translation.now.cat l.task.translation.now.id l.task.translation.now.plan l.task.packing l.top l.packed l.lines.band y;
}
