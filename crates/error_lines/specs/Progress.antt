-- What is told of the work of a run that isn't quiet: how far it is, and that it is done.
use Rattle.std.specs.Prelude.{ℕ, List, codes}

-- what is told while the work goes on
abbrev pub progress : List ℕ
progress = codes "0...10...20...30...40...50...60...70...80...90..."

-- How many bytes these are.
abbrev pub progress_len : ℕ
progress_len = 49

-- what is told when all is done
abbrev pub progress_end : List ℕ
progress_end = codes "100 - done.\n"
