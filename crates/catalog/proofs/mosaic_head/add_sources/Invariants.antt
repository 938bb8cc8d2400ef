use Rattle.std.proofs.Common.{◌++◌, take, List, ℕ}
use Rattle.std.specs.List.{filter_map}
use Rattle.catalog.specs.Mosaics.{source_name}
use Rattle.catalog.specs.Gathered.{HasGathered}
use Rattle.catalog.proofs.mosaic_head.add_sources.Given as goal

-- the names of the sources so far are gathered
abbrev pub invariant-loop-at : goal.invariant-loop-at
invariant-loop-at l = (own : List ℕ) (names : List (List ℕ)) → HasGathered own names l.fn.gathered → HasGathered own (names ++ filter_map (source_name l.base) (take l.at l.sources)) l.gathered
