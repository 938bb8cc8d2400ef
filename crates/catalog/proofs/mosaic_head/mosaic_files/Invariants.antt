use Rattle.std.proofs.Common.{take}
use Rattle.std.specs.Prelude.{flat_map}
use Rattle.std.specs.List.{filter_map}
use Rattle.catalog.specs.Mosaics.{source_name}
use Rattle.catalog.specs.Gathered.{HasGathered}
use Rattle.catalog.proofs.mosaic_head.mosaic_files.Given as goal

-- the names of the sources of the bands so far are gathered
abbrev pub invariant-loop-band : goal.invariant-loop-band
invariant-loop-band l = HasGathered l.name (filter_map (source_name l.name) (flat_map (λ b. b.sources) (take l.band-index l.document.bands))) l.gathered
