use Rattle.std.proofs.Common.{arith}
use Rattle.outside_fakes.proofs.Counts.{more_later, more_rose, gate_later, gate_rose, on_err}
use Rattle.outside_fakes.proofs.gate.GateFolder.read_at.Goals as goal

pub returns-in_err-read_at-clause-cause : goal.returns-in_err-read_at-clause-cause
returns-in_err-read_at-clause-cause g c =
    let h = c.in_err-read_at.ensures.cause in
    record { later = more_later _ _ c.args.self.now.failed h.later; failed = on_err _ (more_rose _ _ c.args.self.now.failed h.later h.failed) }

pub returns-then-not-passed-clause-cause : goal.returns-then-not-passed-clause-cause
returns-then-not-passed-clause-cause g c =
    let h = c.in_ok-read_at.ensures.cause in
    record { later = gate_later _ _ c.args.self.now.failed _ h.later (omega arith); failed = gate_rose _ _ c.args.self.now.failed _ h.later (omega arith) }

pub returns-clause-cause : goal.returns-clause-cause
returns-clause-cause g c =
    let h = c.in_ok-read_at.ensures.cause in
    record { later = more_later _ _ c.args.self.now.failed h.later; failed = tt }
