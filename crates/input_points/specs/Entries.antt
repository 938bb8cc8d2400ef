-- The lines of an input with their numbers, up to the first that ends the reading.
use Rattle.std.specs.Prelude.{ℕ, ◌+◌, Bool, true, false, List, [], ◌∷◌, nat_lt, if◌then◌else◌}
use Rattle.std.specs.Str.Lines.{lines}
use Rattle.input_points.specs.declared.entry.Entry.{Entry}
use Rattle.input_points.specs.declared.entry.LineKind.{LineKind}
use Rattle.input_points.specs.declared.entry.LineKind.TheVariants.{Blank, Point, Bad, TooMany}
use Rattle.input_points.specs.Lines.{ended_lines}
use Rattle.input_points.specs.Points.{line_kind_of}

-- The most lines of an input.
abbrev pub most_lines : ℕ
most_lines = 16777216

-- whether no line is read behind such a one
abbrev pub ends : LineKind → Bool
ends Blank = false
ends (Point x y) = false
ends Bad = true
ends TooMany = true

-- the line with this number; past 16,777,216 there is one too many, whatever it holds
abbrev pub entry_of : ℕ → List ℕ → Entry
entry_of number line = record { line = number; kind = if nat_lt most_lines number then TooMany else line_kind_of line }

-- these lines, numbered from here on, up to the first that ends the reading
abbrev pub entries_from : ℕ → List (List ℕ) → List Entry
entries_from number [] = []
entries_from number (line ∷ more) =
    entry_of number line ∷ (if ends (entry_of number line).kind then [] else entries_from (number + 1) more)

-- all lines of an input
unfoldable pub entries : List ℕ → List Entry
entries text = entries_from 1 (lines text)

-- the lines of an input that have an end
unfoldable pub ended_entries : List ℕ → List Entry
ended_entries text = entries_from 1 (ended_lines text)
