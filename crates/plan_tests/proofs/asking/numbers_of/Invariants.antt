use Rattle.std.proofs.Common.{◌<◌, ◌≤◌}
use Rattle.std.specs.List.{All}
use Rattle.plan_tests.proofs.asking.numbers_of.Given as goal

-- each number so far is one of a band
abbrev pub invariant-loop-band : goal.invariant-loop-band
invariant-loop-band l = All (λ b. (0 < b) × (b ≤ 256)) l.numbers
