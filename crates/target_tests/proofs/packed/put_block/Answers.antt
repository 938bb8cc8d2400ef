use Rattle.std.proofs.Common.{sym, ◌∙◌}
use Rattle.target_tests.proofs.packed.put_block.Goals as goal

pub put_line-requires-clause-lined : goal.put_line-requires-clause-lined
put_line-requires-clause-lined g c κs within = record { rows = sym c.by_columns.ensures.columns ∙ c.if-by_columns.false; apart = c.requires.apart }

pub put_piece-requires-clause-lined : goal.put_piece-requires-clause-lined
put_piece-requires-clause-lined g c κs within = record { rows = sym c.by_columns.ensures.columns ∙ c.if-by_columns.false; apart = c.requires.apart }
