use Rattle.ascii_grid.proofs.RowValues.{row_kept}
use Rattle.ascii_grid.proofs.laws.row_is_of_the_band.Goals as goal

pub returns : goal.returns
returns c = record { range = row_kept }
