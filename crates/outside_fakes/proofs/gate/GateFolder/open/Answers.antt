use Rattle.outside_fakes.proofs.Counts.{has_cause}
use Rattle.outside_fakes.proofs.gate.GateFolder.open.Goals as goal

pub returns-clause-cause : goal.returns-clause-cause
returns-clause-cause g c = has_cause _ _ _ c.args.self.now.failed _ c.open.ensures.cause
