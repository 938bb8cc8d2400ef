use Rattle.std.proofs.Common.{ℕ, ◌-◌, ◌<◌, ◌≤◌}
use Rattle.std.specs.List.{All, Contains}
use Rattle.mosaic_sources.specs.Rows.{list_at}
use Rattle.nearest_window.specs.Wanted.{IsListedIn}
use Rattle.nearest_window.proofs.wanted.gathered.Given as goal

abbrev pub decreases-loop-y : goal.decreases-loop-y
decreases-loop-y l = l.end - l.y

abbrev pub invariant-loop-y : goal.invariant-loop-y
invariant-loop-y l = record {
  low : l.fn.rect.y ≤ l.y;
  all : (z : ℕ) → l.fn.rect.y ≤ z → z < l.y → (n : ℕ) → Contains (list_at l.index z) n → Contains l.numbers.items n;
  from : All (IsListedIn l.index l.fn.rect) l.numbers.items;
}
