use Rattle.std.proofs.Common.{◌∙◌, ap, arith, length, length-drop}
use Rattle.std.proofs.lemmas.List.{take_rest}
use Rattle.ascii_grid.specs.Row.{reading}
use Rattle.ascii_grid.proofs.Runs.{row_part}
use Rattle.ascii_grid.proofs.row.RowState.take.Goals as goal

pub loop-at-preserved : goal.loop-at-preserved
loop-at-preserved c =
    let so_far = c.loop-at.invariant in
    let part = c.add_part-at in
    let left = ap length (take_rest c.args.bytes.now c.loop-at.at) ∙ length-drop c.loop-at.at c.args.bytes.now in
    record {
      fed = row_part (reading c.args.self.now c.args.out.now) (reading c.loop-at.self c.loop-at.out) (reading part.new.self part.new.out) c.args.bytes.now c.loop-at.at part.result so_far.fed part.ensures.fed;
      over = part.ensures.over ∙ so_far.over;
      room = part.ensures.room;
      size = part.ensures.size ∙ so_far.size;
      within = omega (arith, part.ensures.within, left, so_far.within);
    }
