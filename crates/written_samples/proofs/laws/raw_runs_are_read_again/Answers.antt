use Rattle.written_samples.proofs.RawRuns.{run_line, run_read, run_others}
use Rattle.written_samples.proofs.laws.raw_runs_are_read_again.Goals as goal

pub returns : goal.returns
returns c = record { line = run_line; read = run_read; others = run_others }
