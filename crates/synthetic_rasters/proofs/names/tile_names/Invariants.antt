use Rattle.std.proofs.Common.{◌≡◌, map}
use Rattle.std.specs.List.{range_with_len}
use Rattle.synthetic_rasters.specs.Names.{tile_name}
use Rattle.synthetic_rasters.proofs.names.tile_names.Given as goal

-- the names of the tiles so far
abbrev pub invariant-loop-tile : goal.invariant-loop-tile
invariant-loop-tile l = l.names ≡ map tile_name (range_with_len 0 l.tile)
