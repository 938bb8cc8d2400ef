use Rattle.std.proofs.Common.{◌≡◌, map, take}
use Rattle.catalog.specs.Mosaics.{mosaic_band}
use Rattle.catalog.proofs.mosaic_head.mosaic_bands.Given as goal

-- the bands so far
abbrev pub invariant-loop-band : goal.invariant-loop-band
invariant-loop-band l = l.bands ≡ map (mosaic_band l.document.size) (take l.band-index l.document.bands)
