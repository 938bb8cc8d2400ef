-- Samples of a block that are copied to places that stand apart.
use Rattle.std.specs.Prelude.{◌≡◌, ◌<◌, ◌+◌, ◌*◌, ℕ, ℤ, pos, List, length, get_or}

-- none of n places that stand so far apart from `start` on
abbrev pub IsBeside : ℕ → ℕ → ℕ → ℕ → Type 0
IsBeside n start stride j = (i : ℕ) → i < n → j ≡ start + i * stride → ⊥

-- the samples from the place `at` on stand in the new list at n places that stand so far apart from `start` on, and
-- elsewhere what stood there
pub record IsSpread (samples : List ℤ) (at n start stride : ℕ) (old new : List ℤ) : Type 0 where
  pub size : length new ≡ length old
  pub each : (i : ℕ) → i < n → get_or new (start + i * stride) (pos 0) ≡ get_or samples (at + i) (pos 0)
  pub others : (j : ℕ) → IsBeside n start stride j → get_or new j (pos 0) ≡ get_or old j (pos 0)
