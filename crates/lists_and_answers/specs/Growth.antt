-- What a call leaves of a list that it should extend.
use Rattle.std.specs.Prelude.{◌≡◌, ℕ, List, ◌++◌, length, take}

-- the new list is the old one with this text at its end
pub record Adds (old new text : List ℕ) : Type 0 where
  pub all : new ≡ old ++ text

-- what the old list held stands at the front of the new one
pub record KeepsFront (old new : List ℕ) : Type 0 where
  pub front : take (length old) new ≡ old
