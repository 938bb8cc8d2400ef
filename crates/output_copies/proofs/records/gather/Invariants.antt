use Rattle.output_copies.specs.Packed.{HasRows}
use Rattle.output_copies.proofs.records.gather.Given as goal

-- the rows so far
abbrev pub invariant-loop-row : goal.invariant-loop-row
invariant-loop-row l = HasRows l.samples l.wide l.at l.row l.run
