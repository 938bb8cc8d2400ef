use Rattle.interleaved_raw.proofs.Order.{run_is}
use Rattle.interleaved_raw.proofs.laws.run_is_of_the_file.Goals as goal

pub returns : goal.returns
returns c = record { same = run_is }
