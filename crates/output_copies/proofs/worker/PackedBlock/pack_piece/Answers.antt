use Rattle.std.proofs.Common.{◌∙◌}
use Rattle.output_copies.proofs.worker.PackedBlock.pack_piece.Goals as goal

pub returns-clause-block : goal.returns-clause-block
returns-clause-block c = record { kind = c.pack_piece.ensures.kind ∙ c.requires.block.kind; count = c.pack_piece.ensures.count ∙ c.requires.block.count }
