use Rattle.std.proofs.Common.{take}
use Rattle.catalog.specs.Gathered.{HasKept}
use Rattle.catalog.proofs.repeats.kept_but.Given as goal

-- the names so far
abbrev pub invariant-loop-at : goal.invariant-loop-at
invariant-loop-at l = HasKept l.own (take l.at l.names) l.files
