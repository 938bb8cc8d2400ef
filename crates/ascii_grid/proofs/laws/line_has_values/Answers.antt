use Rattle.ascii_grid.proofs.RowReads.{line_sample}
use Rattle.ascii_grid.proofs.laws.line_has_values.Goals as goal

pub returns : goal.returns
returns c = record { same = line_sample }
