-- The names of the inputs of a mosaic: those that are given, then the lines of a list.
use Rattle.std.specs.Prelude.{ℕ, ◌+◌, ◌^◌, List, [], ◌∷◌, ◌++◌, length, nat_lt, Bool, true, false, Option, Some, None}
use Rattle.std.specs.Prelude.{Result, Ok, Err, ok_or, if◌then◌else◌}
use Rattle.std.specs.List.{filter}
use Rattle.std.specs.FinMap.{get}
use Rattle.std.specs.Str.{is_utf8}
use Rattle.std.specs.Str.Lines.{lines}
use Rattle.lists_and_answers.specs.Answers.{◌>>=◌}
use Rattle.outside.specs.Outside.{Files}
use Rattle.outside.specs.Paths.{normal, longest_name}
use Rattle.catalog.specs.declared.faults.Bad.TheVariants as bad
use Rattle.catalog.specs.declared.faults.LimitKind.TheVariants as limits
use Rattle.error_lines.specs.declared.faults.Fault.{Fault}
use Rattle.error_lines.specs.declared.faults.Fault.TheVariants.{Absent, Malformed, Limit}
use Rattle.catalog.specs.Dataset.{most_datasets}

-- the bytes under the name of a list
abbrev pub list_in : Files → List ℕ → Result (List ℕ) Fault
list_in m name = ok_or (get m name) (Absent name)

-- the greatest length of a list, in bytes
abbrev pub longest_list : ℕ
longest_list = 2 ^ 26

-- the bytes of a list are within the limit
abbrev pub within_limit : List ℕ → Result (Unit {0}) Fault
within_limit bytes = if nat_lt longest_list (length bytes) then Err (Limit limits.List (length bytes)) else Ok tt

-- the bytes of a list, which have to be UTF-8
abbrev pub list_text_in : List ℕ → List ℕ → Result (List ℕ) Fault
list_text_in name bytes = if is_utf8 bytes then Ok bytes else Err (Malformed name bad.List)

-- the lines that aren't empty
abbrev pub is_filled : List ℕ → Bool
is_filled [] = false
is_filled (byte ∷ bytes) = true

abbrev pub filled : List (List ℕ) → List (List ℕ)
filled texts = filter is_filled texts

-- the lines of a list that aren't empty. A line ends with a line feed, or with a carriage return and a line feed.
unfoldable pub lines_in : Files → List ℕ → Result (List (List ℕ)) Fault
lines_in m name = do
  bytes ← list_in m name
  short ← within_limit bytes
  text ← list_text_in name bytes
  Ok (filled (lines text))

abbrev pub listed_in : Files → Option (List ℕ) → Result (List (List ℕ)) Fault
listed_in m None = Ok []
listed_in m (Some name) = lines_in m name

-- a line as a name, which is normalised
abbrev pub name_of_line : List ℕ → Result (List ℕ) Fault
name_of_line line =
    if nat_lt longest_name (length line) then Err (Limit limits.Name (length line)) else Ok (normal line)

-- with one more name there are at most 65,536
abbrev pub with_name : List (List ℕ) → List ℕ → Result (List (List ℕ)) Fault
with_name names name =
    if nat_lt (length names) most_datasets then Ok (names ++ name ∷ [])
    else Err (Limit limits.Files (most_datasets + 1))

-- the names of lines behind these names, up to the first that is refused
abbrev pub with_lines : List (List ℕ) → List (List ℕ) → Result (List (List ℕ)) Fault
with_lines names [] = Ok names
with_lines names (line ∷ more) = name_of_line line >>= λ name. (with_name names name >>= λ next. with_lines next more)

-- of the names that are given there are as many too
abbrev pub unless_many : List (List ℕ) → Result (Unit {0}) Fault
unless_many names = if nat_lt most_datasets (length names) then Err (Limit limits.Files (most_datasets + 1)) else Ok tt

abbrev pub named_behind : List (List ℕ) → List (List ℕ) → Result (List (List ℕ)) Fault
named_behind names lines = unless_many names >>= λ few. with_lines names lines

-- The names of the inputs, or the first refusal: that of the list as a whole, then that of the first name.
unfoldable pub names_in : Files → List (List ℕ) → Option (List ℕ) → Result (List (List ℕ)) Fault
names_in m inputs list = do
  lines ← listed_in m list
  named_behind inputs lines
