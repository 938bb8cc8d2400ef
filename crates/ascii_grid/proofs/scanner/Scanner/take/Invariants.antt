use Rattle.std.proofs.Common.{◌≡◌, ◌≤◌, ◌-◌, take, length, Err}
use Rattle.ascii_grid.specs.declared.faults.GridFault.{GridFault}
use Rattle.ascii_grid.specs.Scan.{fed}
use Rattle.ascii_grid.specs.Scanning.{Reaches}
use Rattle.ascii_grid.proofs.scanner.Scanner.take.Given as goal

abbrev pub invariant-loop-at : goal.invariant-loop-at
invariant-loop-at l = record { state : Reaches l.self (fed l.fn.self (take l.at l.bytes)); stays : (f : GridFault) → l.fn.self ≡ Err f → l.self ≡ Err f; within : l.at ≤ length l.bytes }

abbrev pub decreases-loop-at : goal.decreases-loop-at
decreases-loop-at l = length l.bytes - l.at
