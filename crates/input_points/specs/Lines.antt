-- The lines of an input. All of them are std's `lines`: they end with a line feed or with a carriage return and a line
-- feed, and a last one without an end counts where it isn't empty.
use Rattle.std.specs.Prelude.{ℕ, Bool, not, List, [], ◌∷◌, ◌==◌}
use Rattle.std.specs.List.{slice_split}
use Rattle.std.specs.Str.Lines.{strip_carriage_return}
use Rattle.lists_and_answers.specs.Bytes.{line_feed}

-- a byte inside a line
abbrev pub is_in_line : ℕ → Bool
is_in_line c = not (c == line_feed)

-- of the parts between line feeds, all but the last one
abbrev pub lines_but_last : List (List ℕ) → List (List ℕ)
lines_but_last [] = []
lines_but_last (part ∷ []) = []
lines_but_last (part ∷ (next ∷ parts)) = strip_carriage_return part ∷ lines_but_last (next ∷ parts)

-- the lines of a text that have an end
abbrev pub ended_lines : List ℕ → List (List ℕ)
ended_lines text = lines_but_last (slice_split (λ c. c == line_feed) text)
