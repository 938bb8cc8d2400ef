use Rattle.outside_fakes.proofs.Counts.{with_none}
use Rattle.outside_fakes.proofs.gate.Gate.new.Goals as goal

pub returns-clause-faults : goal.returns-clause-faults
returns-clause-faults g c = with_none (g.F.Folder.faults c.args.inner)
