-- Paths that are their own normal form, by the first bytes of their parts, and texts that add the same parts.
use denote.Ref.{Bor}
use Rattle.std.specs.Prelude.{◌≡◌, ℕ, ◌==◌, Bool, true, false, not, ◌||◌, ◌&&◌, if◌then◌else◌, List, Option, Some, None}
use Rattle.std.specs.Prelude.{[], ◌∷◌, ◌++◌, map}
use Rattle.lists_and_answers.specs.Bytes.{point, slash}
use Rattle.outside.specs.Paths.{kept_parts, between_slashes, is_kept}

-- whether a byte isn't a slash
abbrev pub is_in_part : ℕ → Bool
is_in_part c = not (c == slash)

-- whether a part begins here, and not with a point
abbrev pub begins_part : List ℕ → Bool
begins_part [] = false
begins_part (c ∷ cs) = not (c == slash) && not (c == point)

-- whether a part that begins here begins with a slash or a point
abbrev pub begins_specially : Bool → ℕ → Bool
begins_specially first c = first && ((c == slash) || (c == point))

-- whether each part between slashes, the first of which may have begun, begins with a byte that isn't a point
abbrev pub are_plain : Bool → List ℕ → Bool
are_plain first [] = not first
are_plain first (c ∷ cs) = not (begins_specially first c) && are_plain (c == slash) cs

-- what stands behind a slash in front, or all where there is none
abbrev pub behind_slash : List ℕ → List ℕ
behind_slash [] = []
behind_slash (c ∷ cs) = if c == slash then cs else c ∷ cs

-- what stands behind the slash at which the part in front of it ends says whether all parts are so, and that there is
-- no such slash that this is the last one
abbrev pub are_plain_behind : List ℕ → Option (List ℕ) → Type 0
are_plain_behind text None = are_plain false text ≡ true
are_plain_behind text (Some rest) = are_plain false text ≡ are_plain true rest

-- two texts add the same parts to any that stand before them
abbrev pub add_the_same : List ℕ → List ℕ → Type 0
add_the_same text other =
    (absolute : Bool) (before : List (List ℕ)) → kept_parts absolute before (between_slashes text)
    ≡ kept_parts absolute before (between_slashes other)

-- a relative path adds all its parts to any of which .. removes none
abbrev pub adds_all : List ℕ → Type 0
adds_all text =
    (before : List (List ℕ)) → is_kept before ≡ false → kept_parts false before (between_slashes text) ≡ before ++ between_slashes text

-- the parts that references stand for
abbrev pub dereferenced : List (Bor (List ℕ)) → List (List ℕ)
dereferenced parts = map (λ p. p.now) parts
