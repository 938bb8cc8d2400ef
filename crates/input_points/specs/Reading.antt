-- What is still to come where an input was read up to here.
use Rattle.std.specs.Prelude.{ℕ, ◌+◌, Bool, false, List, [], ◌++◌, if◌then◌else◌}
use Rattle.input_points.specs.declared.entry.Entry.{Entry}
use Rattle.input_points.specs.declared.entry.LineKind.{LineKind}
use Rattle.input_points.specs.Entries.{ends, entries_from}

-- the number of the line that is being read, its bytes so far, and whether the reading has ended
pub record Reading : Type 0 where
  pub line : ℕ
  pub held : List ℕ
  pub over : Bool

abbrev pub start : Reading
start = record { line = 1; held = []; over = false }

-- the reading with more bytes of the line
abbrev pub kept : Reading → List ℕ → Reading
kept r bytes = record { line = r.line; held = r.held ++ bytes; over = r.over }

-- behind the line with this number, which says this
abbrev pub behind : ℕ → LineKind → Reading
behind number kind = record { line = if ends kind then number else number + 1; held = []; over = ends kind }

-- the entries that are still to come where this text follows, by a way to cut a text into lines
unfoldable pub coming : (List ℕ → List (List ℕ)) → Reading → List ℕ → List Entry
coming lines_of r text = if r.over then [] else entries_from r.line (lines_of (r.held ++ text))
