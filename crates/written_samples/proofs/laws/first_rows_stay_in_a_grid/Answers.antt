use Rattle.written_samples.proofs.GridRows.{value_read, rows_missing}
use Rattle.written_samples.proofs.laws.first_rows_stay_in_a_grid.Goals as goal

pub returns : goal.returns
returns c = record { value = value_read; missing = rows_missing }
