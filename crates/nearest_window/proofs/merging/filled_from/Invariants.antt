use Rattle.std.proofs.Common.{◌-◌, ◌≡◌, ℕ, ◌<◌, ◌≤◌, length, pos, true}
use Rattle.std.specs.Prelude.{slice_index_or, is_some}
use Rattle.nearest_window.specs.Canvases.{filled_with}
use Rattle.nearest_window.proofs.merging.filled_from.Given as goal

abbrev pub invariant-loop-filled : goal.invariant-loop-filled
invariant-loop-filled l = record {
  more : l.known ≤ l.filled;
  within : l.filled ≤ length l.samples;
  each : (k : ℕ) → l.known ≤ k → k < l.filled → is_some (filled_with (slice_index_or l.samples k (pos 0))) ≡ true;
}

abbrev pub decreases-loop-filled : goal.decreases-loop-filled
decreases-loop-filled l = length l.samples - l.filled
