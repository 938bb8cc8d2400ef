use Rattle.std.proofs.Common.{ℕ, ap}
use Rattle.outside_fakes.specs.Gates.{with_more}
use Rattle.outside_fakes.proofs.gate.GateFolder.fork.Goals as goal

pub returns : goal.returns
returns g c =
    let v = c.in_ok-fork.ensures.view in
    record { view = record { same = v.same; no_faults = ap (λ (n : ℕ). with_more n 0) v.no_faults; no_reads = v.no_reads; no_writes = v.no_writes } }
