use Rattle.synthetic_rasters.proofs.Named.{names_more}
use Rattle.synthetic_rasters.proofs.names.tile_names.Goals as goal

pub loop-tile-preserved : goal.loop-tile-preserved
loop-tile-preserved c = names_more c.loop-tile.tile c.loop-tile.names c.push.new.self c.in_ok-tile_name.field-0 c.loop-tile.invariant c.in_ok-push.ensures.ok c.in_ok-tile_name.ensures.name
