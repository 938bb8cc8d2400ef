use Rattle.std.proofs.Common.{take, Contains}
use Rattle.outside.proofs.memory.has_name.Given as goal

-- the name wasn't met so far
abbrev pub invariant-loop-held : goal.invariant-loop-held
invariant-loop-held l = ¬ Contains (take l.held-index l.names) l.name
