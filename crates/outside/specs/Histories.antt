-- What a history shows.
use Rattle.std.specs.Prelude.{ℕ, List, map}

-- the bytes of a history, in order
abbrev pub history_bytes : {B : Type 0} → List (ℕ × B) → List ℕ
history_bytes items = map (λ p. p.0) items
