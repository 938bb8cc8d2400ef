use Rattle.write_back.proofs.Outputs.{tile_side}
use Rattle.write_back.proofs.target.Target.create_planned.Goals as goal

pub create_tile-requires-clause-side : goal.create_tile-requires-clause-side
create_tile-requires-clause-side g c κs within = tile_side _ c.plan.invariant.1 c.in-SrtmHgt.is

pub returns-in-SrtmHgt-clause-made : goal.returns-in-SrtmHgt-clause-made
returns-in-SrtmHgt-clause-made g c = c.create_tile.ensures.made

pub returns-in-AaiGrid-clause-made : goal.returns-in-AaiGrid-clause-made
returns-in-AaiGrid-clause-made g c = c.create_grid.ensures.made c.args.capacity
