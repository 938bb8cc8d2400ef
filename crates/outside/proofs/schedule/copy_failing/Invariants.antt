use Rattle.std.proofs.Common.{◌≡◌, take}
use Rattle.outside.proofs.schedule.copy_failing.Given as goal

-- what was copied so far
abbrev pub invariant-loop-call : goal.invariant-loop-call
invariant-loop-call l = l.copy ≡ take l.call-index l.failing
