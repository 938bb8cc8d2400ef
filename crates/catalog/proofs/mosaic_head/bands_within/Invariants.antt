use Rattle.std.proofs.Common.{◌≡◌, drop}
use Rattle.std.specs.Prelude.{flat_map}
use Rattle.catalog.specs.Heads.{all_resolved}
use Rattle.catalog.proofs.mosaic_head.bands_within.Given as goal

-- the sources of the bands that are left are refused as all are
abbrev pub invariant-loop-band : goal.invariant-loop-band
invariant-loop-band l = all_resolved l.base (flat_map (λ b. b.sources) (drop l.band-index l.bands)) ≡ all_resolved l.base (flat_map (λ b. b.sources) l.bands)
