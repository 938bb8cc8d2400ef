use Rattle.std.proofs.Common.{◌≡◌, ℕ, ◌<◌, ◌+◌, length, take}
use Rattle.std.specs.List.{All}
use Rattle.mosaic_sources.specs.Rows.{stretch_of}
use Rattle.mosaic_sources.specs.Stretches.{holding_lines, IsWithinCount}
use Rattle.mosaic_sources.proofs.stretches.all_stretches.Given as goal

abbrev pub invariant-loop-span : goal.invariant-loop-span
invariant-loop-span l = record {
  count : length l.stretches.items ≡ l.span-index;
  within : All (IsWithinCount (length l.cuts + 1)) l.stretches.items;
  held : (y : ℕ) → y < l.height → holding_lines l.stretches.items (stretch_of l.cuts y) ≡ holding_lines (take l.span-index l.spans) y;
  none : l.height ≡ 0 → All (λ s. s.end ≡ 0) l.stretches.items;
}
