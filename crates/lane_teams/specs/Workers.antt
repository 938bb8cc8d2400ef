-- How many lanes read beside each other.
use Rattle.std.specs.Prelude.{ℕ}

-- The most workers.
abbrev pub most_workers : ℕ
most_workers = 16
