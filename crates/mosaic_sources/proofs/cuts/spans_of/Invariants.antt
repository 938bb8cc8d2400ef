use Rattle.std.proofs.Common.{◌≡◌, ℕ, ◌<◌, ◌≤◌, length, take}
use Rattle.std.specs.List.{All}
use Rattle.mosaic_sources.specs.Rows.{covering_lines}
use Rattle.mosaic_sources.specs.Stretches.{holding_lines}
use Rattle.mosaic_sources.proofs.cuts.spans_of.Given as goal

abbrev pub invariant-loop-source : goal.invariant-loop-source
invariant-loop-source l = record {
  count : length l.spans.items ≡ l.source-index;
  within : All (λ s. s.end ≤ l.size.h) l.spans.items;
  lists : (y : ℕ) → y < l.size.h → holding_lines l.spans.items y ≡ covering_lines (take l.source-index l.sources) l.size y;
}
