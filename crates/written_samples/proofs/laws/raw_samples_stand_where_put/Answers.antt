use Rattle.written_samples.proofs.RawRuns.{sample_inside, sample_beside}
use Rattle.written_samples.proofs.laws.raw_samples_stand_where_put.Goals as goal

pub returns : goal.returns
returns c = record { inside = sample_inside; beside = sample_beside }
