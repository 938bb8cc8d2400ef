use Rattle.written_samples.proofs.RawRuns.{over_file, none_between}
use Rattle.written_samples.proofs.laws.encoded_runs_keep_what_is_between.Goals as goal

pub returns : goal.returns
returns c = record { over = over_file; none = none_between }
