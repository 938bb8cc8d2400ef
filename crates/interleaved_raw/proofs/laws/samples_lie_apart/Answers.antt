use Rattle.interleaved_raw.proofs.Apart.{apart}
use Rattle.interleaved_raw.proofs.laws.samples_lie_apart.Goals as goal

pub returns : goal.returns
returns c = record { apart = apart }
