use Rattle.std.proofs.Common.{◌≡◌, ◌<◌, ℕ, length, get_or}
use Rattle.geotransform.specs.Pixels.{within}
use Rattle.translate_plan.specs.Plan.{shown_column}
use Rattle.strip_copies.specs.Columns.{column_at}
use Rattle.strip_copies.proofs.columns.Columns.new.Given as goal

-- the places so far
abbrev pub invariant-loop-column : goal.invariant-loop-column
invariant-loop-column l = record {
  long : length l.places.items ≡ l.column;
  each : (i : ℕ) → i < l.column → within l.width (shown_column l.plan i) ≡ column_at l.first l.count (get_or l.places.items i 0);
}
