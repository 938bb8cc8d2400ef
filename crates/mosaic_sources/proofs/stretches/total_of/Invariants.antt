use Rattle.std.proofs.Common.{◌≡◌, ◌≤◌, ◌*◌, take}
use Rattle.mosaic_sources.specs.Stretches.{total_held}
use Rattle.mosaic_sources.proofs.stretches.total_of.Given as goal

abbrev pub invariant-loop-span : goal.invariant-loop-span
invariant-loop-span l = record {
  total : l.total ≡ total_held (take l.span-index l.stretches);
  bound : l.total ≤ l.span-index * 524289;
}
