use Rattle.translate_plan.proofs.Written.{raw_is_head, grid_sizes, cell_is, tile_is}
use Rattle.translate_plan.proofs.laws.plans_can_be_written.Goals as goal

pub returns-clause-raw : goal.returns-clause-raw
returns-clause-raw c = raw_is_head

pub returns-clause-grid : goal.returns-clause-grid
returns-clause-grid c = grid_sizes

pub returns-clause-cell : goal.returns-clause-cell
returns-clause-cell c = cell_is

pub returns-clause-tile : goal.returns-clause-tile
returns-clause-tile c = tile_is
