use Rattle.std.proofs.Common.{◌≡◌, ◌≤◌, ◌-◌, ℕ, List, ◌++◌, length, drop}
use Rattle.std.specs.Str.Lines.{lines}
use Rattle.input_points.specs.Reading.{coming}
use Rattle.input_points.proofs.laws.read_piece.Given as goal

-- what is given and what is still to come
abbrev pub invariant-loop-at : goal.invariant-loop-at
invariant-loop-at l = record { within : l.at ≤ length l.piece; same : (more : List ℕ) → l.out ++ coming lines l.reader (drop l.at l.piece ++ more) ≡ l.fn.out ++ coming lines l.fn.reader (l.piece ++ more) }

abbrev pub decreases-loop-at : goal.decreases-loop-at
decreases-loop-at l = length l.piece - l.at
