-- How often calls of a gate failed.
use Rattle.std.specs.Prelude.{ℕ, max}
use Rattle.outside.specs.Causes.{added}
use Rattle.outside_fakes.specs.declared.gate.Gate.{Gate}

-- a count and more, up to the end of a u64, and as it is where it stands past that
abbrev pub with_more : ℕ → ℕ → ℕ
with_more count more = max count (added count more)

-- calls that failed behind the gate, and those that failed at it
abbrev pub faults_of : {F : Type 0} → (F → ℕ) → Gate F → ℕ
faults_of faults gate = with_more (faults gate.inner) gate.failed
