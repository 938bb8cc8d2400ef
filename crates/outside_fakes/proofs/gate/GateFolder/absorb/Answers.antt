use Rattle.std.proofs.Common.{arith}
use Rattle.outside_fakes.proofs.Counts.{counts_added, counts_absorbed}
use Rattle.outside_fakes.proofs.gate.GateFolder.absorb.Goals as goal

pub returns-clause-faults : goal.returns-clause-faults
returns-clause-faults g c =
    counts_absorbed _ _ _ c.args.self.now.failed _ c.args.view.failed c.absorb.ensures.faults (omega arith)

pub returns-clause-counted : goal.returns-clause-counted
returns-clause-counted g c =
    counts_added _ _ _ c.args.self.now.failed _ c.args.view.failed c.absorb.ensures.counted (omega arith)
