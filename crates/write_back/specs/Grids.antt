-- A grid that is written line by line.
use Rattle.std.specs.Prelude.{◌≡◌, ◌+◌, ◌*◌, ℕ, ℤ, pos, List, ◌++◌, length, drop, get_or, Option, Some, None}
use Rattle.std.specs.List.{flat_map}
use Rattle.ascii_grid.specs.Text.{head_text, row_text, AreRows}
use Rattle.ascii_grid.specs.Row.{row_of}
use Rattle.write_back.specs.declared.rows.GridForm.{GridForm}

-- the text in front of a grid's lines
abbrev pub front_of : GridForm → List ℕ
front_of g = head_text g.size g.geo g.nodata

-- the text of lines
abbrev pub lines_text : List (List ℤ) → List ℕ
lines_text rows = flat_map row_text rows

-- a draft has the text in front and that of these lines, which are so many
pub record HasRows (g : GridForm) (lines : ℕ) (draft : Option (List ℕ)) (rows : List (List ℤ)) : Type 0 where
  pub is : draft ≡ Some (front_of g ++ lines_text rows)
  pub count : length rows ≡ lines
  pub each : AreRows g.size.w rows

-- the sample in column x, line y: the value of that token of the body, and 0 where there is none yet
abbrev pub grid_at : GridForm → List ℕ → ℕ → ℕ → ℤ
grid_at g bytes x y =
    get_or (row_of (g.size.w * g.size.h) (drop (length (front_of g)) bytes)) (y * g.size.w + x) (pos 0)

-- the sample of a grid's draft, and 0 where its bytes aren't told
abbrev pub grid_in : GridForm → Option (List ℕ) → ℕ → ℕ → ℤ
grid_in g None x y = pos 0
grid_in g (Some bytes) x y = grid_at g bytes x y
