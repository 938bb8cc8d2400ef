use Rattle.std.proofs.Common.{arith, ◌∙◌}
use Rattle.std.proofs.lemmas.List.Elements.{Contains-get_or}
use Rattle.mosaic_sources.proofs.Held.{same_before_cut, same_at_end}
use Rattle.mosaic_sources.proofs.stretches.stretch_end.Goals as goal

pub returns-then-next-cuts-clause-ends : goal.returns-then-next-cuts-clause-ends
returns-then-next-cuts-clause-ends c = λ low. Contains-get_or c.args.cuts.now c.stretch_of-next.result _ c.if-next-cuts.true

pub returns-then-next-cuts-clause-same : goal.returns-then-next-cuts-clause-same
returns-then-next-cuts-clause-same c = λ z from below. same_before_cut c.args.cuts.now c.stretch_of-next.result c.args.y z c.requires.rising c.if-next-cuts.true c.stretch_of-next.ensures.before from below ∙ c.stretch_of-next.ensures.stretch

pub returns-else-next-cuts-clause-same : goal.returns-else-next-cuts-clause-same
returns-else-next-cuts-clause-same c = λ z from below. same_at_end c.args.cuts.now c.stretch_of-next.result c.args.y z c.stretch_of-next.ensures.within (omega arith) c.stretch_of-next.ensures.before from ∙ c.stretch_of-next.ensures.stretch
