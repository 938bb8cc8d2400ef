use Rattle.std.proofs.Common.{◌≤◌}
use Rattle.strip_copies.specs.Rows.{AreShownIn}
use Rattle.strip_copies.proofs.spans.run_from.Given as goal

-- the lines so far
abbrev pub invariant-loop-line : goal.invariant-loop-line
invariant-loop-line l = record {
  lines : AreShownIn l.plan l.height l.first l.line l.span;
  few : l.span.height ≤ l.reach.rows;
}
