-- Lists of lists.
use Rattle.std.specs.Prelude.{ℕ, Bool, List, [], ◌∷◌, ◌++◌, flat_map, bytes_eq, if◌then◌else◌}
use Rattle.std.specs.List.{list_any}

-- whether a name is among others
abbrev pub is_among : List (List ℕ) → List ℕ → Bool
is_among names name = list_any (λ n. bytes_eq n name) names

-- a name behind others, unless it is among them
abbrev pub with_name : List (List ℕ) → List ℕ → List (List ℕ)
with_name names name = if is_among names name then names else names ++ name ∷ []

-- the lists, one after another
abbrev pub flattened : {X : Type 0} → List (List X) → List X
flattened {X} lists = flat_map (λ (list : List X). list) lists
