-- Files in memory, by what was put last.
use Rattle.std.specs.Prelude.{ℕ, List, Option}
use Rattle.std.specs.FinMap.{get}
use Rattle.outside.specs.declared.memory.Stored.{Stored}
use Rattle.outside.specs.Memory.{files_of}

-- what was put last under a name
abbrev pub newest : List Stored → List ℕ → Option (List ℕ)
newest ss name = get (files_of ss) name
