use Rattle.std.proofs.Common.{arith}
use Rattle.nearest_window.proofs.Needed.{within_end}
use Rattle.nearest_window.proofs.wanted.is_one_stretch.Goals as goal

pub returns-clause-same : goal.returns-clause-same
returns-clause-same c = λ is y at. c.stretch_end.ensures.same y at.top (omega (arith, at.bottom, within_end _ _ is))
