use Rattle.std.proofs.Common.{◌≡◌, ◌++◌, take}
use Rattle.location_report.specs.Location.{values_text}
use Rattle.location_report.proofs.values.push_values.Given as goal

-- the values so far
abbrev pub invariant-loop-value : goal.invariant-loop-value
invariant-loop-value l = l.out.items ≡ l.fn.out.items ++ values_text (take l.value-index l.values)
