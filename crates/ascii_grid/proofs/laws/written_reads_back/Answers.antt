use Rattle.ascii_grid.proofs.Again.{grid_again}
use Rattle.ascii_grid.proofs.laws.written_reads_back.Goals as goal

pub returns : goal.returns
returns c = record { same = grid_again }
