use Rattle.std.proofs.Common.{Ok, ap, sym, ◌∙◌}
use Rattle.ascii_grid.proofs.Ticks.{units_stepped}
use Rattle.ascii_grid.proofs.values.step_in.Goals as goal

pub returns-in-Some : goal.returns-in-Some
returns-in-Some c = ap Ok c.units_step.ensures ∙ sym (units_stepped c.args.at c.args.text.now c.in-Some.n c.in-Some.ensures.value c.if-n-gt0.true)
