use Rattle.outside_fakes.proofs.Counts.{fails_with}
use Rattle.outside_fakes.proofs.gate.GateFolder.draft_read.Goals as goal

pub returns-clause-cause : goal.returns-clause-cause
returns-clause-cause g c = fails_with _ _ c.args.self.now.failed _ c.draft_read.ensures.cause
