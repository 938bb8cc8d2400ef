-- The lines of a header, their keys and values.
use Rattle.std.specs.Prelude.{ℕ, Bool, ◌||◌, List, [], ◌∷◌, length, Option, Some, None, ◌==◌, if◌then◌else◌}
use Rattle.std.specs.List.{slice_split, position}
use Rattle.lists_and_answers.specs.Bytes.{line_feed, carriage_return}
use Rattle.lists_and_answers.specs.Texts.{same_letters, token_at}
use Rattle.esri_hdr.specs.Keys.{names}

-- a line ends with a line feed, a carriage return, or both: between both there is one empty line more, which has no
-- token
abbrev pub is_line_end : ℕ → Bool
is_line_end c = (c == line_feed) || (c == carriage_return)

-- the lines of a text
abbrev pub lines : List ℕ → List (List ℕ)
lines text = slice_split is_line_end text

-- the number of the key that a token names
abbrev pub key_of : List ℕ → Option ℕ
key_of token = position (same_letters token) names

-- a value with its key, where there is one
abbrev pub with_key : Option ℕ → List ℕ → Option (ℕ × List ℕ)
with_key None value = None
with_key (Some key) value = Some (key, value)

-- the value of a line, where its key is this one
abbrev pub value_for : ℕ → Option (ℕ × List ℕ) → Option (List ℕ)
value_for key None = None
value_for key (Some entry) = if entry.0 == key then Some entry.1 else None

-- the first of two that is there
abbrev pub or_else : Option (List ℕ) → Option (List ℕ) → Option (List ℕ)
or_else None second = second
or_else (Some first) second = Some first

-- a line's key and its value: its first token, where that names a key, and its second token
unfoldable pub entry_at : List ℕ → Option (ℕ × List ℕ)
entry_at line =
    let first = token_at line in
    let second = token_at first.1 in
    if length second.0 == 0 then None else with_key (key_of first.0) second.0

-- the value that a line gives a key
abbrev pub value_in : ℕ → List ℕ → Option (List ℕ)
value_in key line = value_for key (entry_at line)

-- the value in the last of the lines that gives the key one
abbrev pub last_in : ℕ → List (List ℕ) → Option (List ℕ)
last_in key [] = None
last_in key (line ∷ more) = or_else (last_in key more) (value_in key line)

-- the value that the last line of a text that has the key gives it
abbrev pub last_in_text : List ℕ → ℕ → Option (List ℕ)
last_in_text text key = last_in key (lines text)

-- the value of each key
abbrev pub Values : Type 0
Values = ℕ → Option (List ℕ)
