-- What a counting folder counts of its own.
use Rattle.std.specs.Prelude.{ℕ}
use Rattle.outside.specs.declared.counting.CountingFolder.{CountingFolder}

-- the calls of open
abbrev pub opens_of : {F : Type 0} → CountingFolder F → ℕ
opens_of folder = folder.opens
