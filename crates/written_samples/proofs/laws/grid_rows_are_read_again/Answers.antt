use Rattle.written_samples.proofs.GridRows.{row_read, so_far}
use Rattle.written_samples.proofs.laws.grid_rows_are_read_again.Goals as goal

pub returns : goal.returns
returns c = record { row = row_read; so_far = so_far }
