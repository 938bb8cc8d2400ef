use Rattle.std.proofs.Common.{◌∙◌}
use Rattle.output_copies.proofs.worker.PackedBlock.pack.Goals as goal

pub returns-clause-block : goal.returns-clause-block
returns-clause-block c = record { kind = c.pack.ensures.kind ∙ c.requires.block.kind; count = c.pack.ensures.count ∙ c.requires.block.count }
