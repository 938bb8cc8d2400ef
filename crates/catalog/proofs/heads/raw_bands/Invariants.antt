use Rattle.std.proofs.Common.{◌≡◌}
use Rattle.std.specs.Prelude.{replicate}
use Rattle.catalog.proofs.heads.raw_bands.Given as goal

-- the bands so far
abbrev pub invariant-loop-at : goal.invariant-loop-at
invariant-loop-at l = l.bands ≡ replicate l._at l.band
