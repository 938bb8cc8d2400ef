use Rattle.band_blocks.proofs.Corners.{rows_cut}
use Rattle.band_blocks.proofs.laws.rows_are_cut_by_lines.Goals as goal

pub returns : goal.returns
returns c = record { joined = rows_cut }
