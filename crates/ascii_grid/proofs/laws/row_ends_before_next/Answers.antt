use Rattle.ascii_grid.proofs.RowReads.{row_ends, row_within}
use Rattle.ascii_grid.proofs.laws.row_ends_before_next.Goals as goal

pub returns : goal.returns
returns c = record { ended = row_ends; same = row_within }
