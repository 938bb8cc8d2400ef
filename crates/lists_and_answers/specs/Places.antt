-- Places in a file.
use Rattle.std.specs.Prelude.{◌≡◌, ℕ, List, length, take, drop}

-- the bytes are those of a file from a place on
abbrev pub StandsAt : List ℕ → List ℕ → ℕ → Type 0
StandsAt file bytes at = bytes ≡ take (length bytes) (drop at file)
