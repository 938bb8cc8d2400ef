use Rattle.written_samples.proofs.TileRows.{row_line, row_read, row_others}
use Rattle.written_samples.proofs.laws.tile_rows_are_read_again.Goals as goal

pub returns : goal.returns
returns c = record { line = λ side file x y samples row. row_line side file x y samples row; read = λ side file x y i samples row less. row_read side file x y samples row i less; others = λ side file x y u v samples row column other. row_others side file x y samples row u v column other }
