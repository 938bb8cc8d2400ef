use Rattle.outside_fakes.proofs.Counts.{has_cause}
use Rattle.outside_fakes.proofs.gate.GateFolder.write_at.Goals as goal

pub returns-clause-cause : goal.returns-clause-cause
returns-clause-cause g c = has_cause _ _ _ c.args.self.now.failed _ c.write_at.ensures.cause
