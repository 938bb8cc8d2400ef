-- The bands of raw data.
use Rattle.std.proofs.Common.{◌≡◌, ℕ, [], ◌∷◌, ◌++◌, ◌+◌}
use Rattle.std.specs.Prelude.{replicate}
use Rattle.std.proofs.lemmas.List.{replicate-append-replicate}

-- one band more of the same
pub one_more_band : {T : Type 0} (n : ℕ) (band : T) → replicate n band ++ band ∷ [] ≡ replicate (n + 1) band
one_more_band n band = replicate-append-replicate n 1 band
