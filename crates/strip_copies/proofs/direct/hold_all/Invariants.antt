use Rattle.std.proofs.Common.{◌≡◌, ◌<◌, ◌≤◌, ℕ, pos, get_or}
use Rattle.strip_copies.specs.Rows.{nearest}
use Rattle.strip_copies.proofs.direct.hold_all.Given as goal

-- the samples so far are held, and those that follow are as they were
abbrev pub invariant-loop-at : goal.invariant-loop-at
invariant-loop-at l = record {
  held : (i : ℕ) → i < l.at → get_or l.samples i (pos 0) ≡ nearest l.holding.least l.holding.most (get_or l.fn.samples i (pos 0));
  rest : (i : ℕ) → l.at ≤ i → get_or l.samples i (pos 0) ≡ get_or l.fn.samples i (pos 0);
}
