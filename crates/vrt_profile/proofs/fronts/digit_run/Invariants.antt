use Rattle.std.proofs.Common.{◌<◌, ◌≤◌, length}
use Rattle.vrt_profile.specs.Fronts.{DigitRun}
use Rattle.vrt_profile.proofs.fronts.digit_run.Given as goal

abbrev pub invariant-loop-digit : goal.invariant-loop-digit
invariant-loop-digit l = record { run : DigitRun l.text l.n l.count l.rest; small : l.n < 1000000000; shorter : length l.rest ≤ length l.text }

abbrev pub decreases-loop-digit : goal.decreases-loop-digit
decreases-loop-digit l = length l.rest
