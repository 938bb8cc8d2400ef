use Rattle.ascii_grid.proofs.RowReads.{rows_are_rising}
use Rattle.ascii_grid.proofs.laws.rows_rise.Goals as goal

pub returns : goal.returns
returns c = record { rising = rows_are_rising }
