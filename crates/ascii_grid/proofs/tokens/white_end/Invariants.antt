use Rattle.std.proofs.Common.{◌≡◌, ◌<◌, ◌≤◌, ℕ, get_or, true}
use Rattle.lists_and_answers.specs.Texts.{is_white}
use Rattle.ascii_grid.proofs.tokens.white_end.Given as goal

abbrev pub invariant-loop-i : goal.invariant-loop-i
invariant-loop-i l = (k : ℕ) → l.from ≤ k → k < l.i → is_white (get_or l.bytes k 0) ≡ true
