-- Paths and their normal forms, by their parts.
use Rattle.std.specs.Prelude.{ℕ, ◌≡◌, ◌≤◌, ◌==◌, ◌-◌, Bool, false, not, ◌||◌, List, [], ◌∷◌, ◌++◌, length, take, drop}
use Rattle.std.specs.Prelude.{flat_map, codes, bytes_eq, slice_get, Option, Some, None, if◌then◌else◌}
use Rattle.std.specs.List.{slice_split}
use Rattle.lists_and_answers.specs.Bytes.{slash}

-- The most bytes of a name.
abbrev pub longest_name : ℕ
longest_name = 4096

-- a part is there, and it isn't `..`
abbrev pub is_other : Option (List ℕ) → Bool
is_other None = false
is_other (Some part) = not (bytes_eq part (codes ".."))

-- there is a last part, and it isn't ..
abbrev pub is_kept : List (List ℕ) → Bool
is_kept parts = is_other (slice_get parts (length parts - 1))

-- Empty parts and . are dropped. A part .. removes the part before it, where that isn't ..; at the front of an absolute
-- path it is dropped, at the front of another it stays.
abbrev pub with_part : Bool → List (List ℕ) → List ℕ → List (List ℕ)
with_part absolute parts part = if bytes_eq part [] || bytes_eq part (codes ".") then parts
    else if not (bytes_eq part (codes "..")) then parts ++ part ∷ []
    else if is_kept parts then take (length parts - 1) parts
    else if not absolute then parts ++ codes ".." ∷ [] else parts

-- the parts that stay, of those before and those that follow, in order
abbrev pub kept_parts : Bool → List (List ℕ) → List (List ℕ) → List (List ℕ)
kept_parts absolute before [] = before
kept_parts absolute before (part ∷ parts) = kept_parts absolute (with_part absolute before part) parts

-- the text's parts between its slashes
abbrev pub between_slashes : List ℕ → List (List ℕ)
between_slashes text = slice_split (λ b. b == slash) text

-- a slash before each part
abbrev pub joined : List (List ℕ) → List ℕ
joined parts = flat_map (λ p. slash ∷ p) parts

-- it begins with a slash
abbrev pub is_absolute : List ℕ → Bool
is_absolute [] = false
is_absolute (b ∷ bs) = b == slash

-- the parts with slashes between them, and one at the front of an absolute path; no part at all is / or .
abbrev pub path_of_parts : Bool → List (List ℕ) → List ℕ
path_of_parts absolute [] = if absolute then codes "/" else codes "."
path_of_parts absolute (p ∷ ps) = if absolute then joined (p ∷ ps) else drop 1 (joined (p ∷ ps))

-- the normal form of a path
unfoldable pub normal : List ℕ → List ℕ
normal text = path_of_parts (is_absolute text) (kept_parts (is_absolute text) [] (between_slashes text))

-- a text that is the name of a file: in its normal form, and of 1 to 4,096 bytes
pub record IsName (text : List ℕ) : Type 0 where
  pub is_normal : normal text ≡ text
  pub some : 1 ≤ length text
  pub fits : length text ≤ longest_name
