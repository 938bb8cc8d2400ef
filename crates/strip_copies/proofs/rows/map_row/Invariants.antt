use Rattle.std.proofs.Common.{◌≡◌, ◌<◌, ℕ, pos, get_or}
use Rattle.strip_copies.specs.Rows.{made_of}
use Rattle.strip_copies.proofs.rows.map_row.Given as goal

-- the samples so far
abbrev pub invariant-loop-at : goal.invariant-loop-at
invariant-loop-at l = (i : ℕ) → i < l.at → get_or l.row i (pos 0) ≡ made_of l.holding l.line (get_or l.places i 0)
