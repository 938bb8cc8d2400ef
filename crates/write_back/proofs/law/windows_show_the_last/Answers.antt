use Rattle.write_back.proofs.Windows.{shows_last}
use Rattle.write_back.proofs.law.windows_show_the_last.Goals as goal

pub returns : goal.returns
returns c = record { last = shows_last }
