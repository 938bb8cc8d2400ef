use Rattle.interleaved_raw.proofs.Order.{ends_within}
use Rattle.interleaved_raw.proofs.laws.last_sample_is_last.Goals as goal

pub returns : goal.returns
returns c = record { within = ends_within }
