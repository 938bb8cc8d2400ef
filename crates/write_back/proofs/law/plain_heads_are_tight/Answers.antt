use Rattle.write_back.proofs.Plain.{plain_tight}
use Rattle.write_back.proofs.law.plain_heads_are_tight.Goals as goal

pub returns : goal.returns
returns c = record { tight = plain_tight }
