use Rattle.std.proofs.Common.{◌∙◌, ap, arith, length, length-drop}
use Rattle.std.proofs.lemmas.List.{take_rest}
use Rattle.ascii_grid.proofs.Runs.{fed_part}
use Rattle.ascii_grid.proofs.scanner.Scanner.add_values.Goals as goal

pub loop-at-preserved : goal.loop-at-preserved
loop-at-preserved c =
    let so_far = c.loop-at.invariant in
    let part = c.add_later-taken in
    let left = ap length (take_rest c.args.bytes.now c.loop-at.at) ∙ length-drop c.loop-at.at c.args.bytes.now in
    record {
      state = fed_part c.args.self.now c.loop-at.self part.new.self c.args.bytes.now c.loop-at.at part.result so_far.state part.ensures.state;
      stays = λ f is. part.ensures.stays f (so_far.stays f is);
      within = omega (arith, part.ensures.within, left, so_far.within);
    }
