use Rattle.ascii_grid.proofs.RowReads.{row_is_line}
use Rattle.ascii_grid.proofs.laws.row_is_of_the_file.Goals as goal

pub returns : goal.returns
returns c = record { same = row_is_line }
