-- The text that is written of a grid.
use Rattle.std.specs.Prelude.{◌≡◌, ◌-◌, ◌<ℤ◌, ℕ, ℤ, pos, neg_ℤ, true, unsigned_abs, List, [], ◌∷◌}
use Rattle.std.specs.Prelude.{◌++◌, length, replicate, Option, Some, None, Ok, codes, if◌then◌else◌}
use Rattle.std.specs.List.{flat_map, All}
use Rattle.std.specs.Fmt.{decimal, signed_decimal}
use Rattle.lists_and_answers.specs.Bytes.{line_feed, space_byte}
use Rattle.geotransform.specs.Print.{short_text, unit}
use Rattle.geotransform.specs.Places.{sixteen_places, are_same}
use Rattle.geotransform.specs.Geo.{Transform, IsNear, along}
use Rattle.geotransform.specs.declared.types.Size.{Size}
use Rattle.ascii_grid.specs.declared.placing.Placing.{Placing}
use Rattle.ascii_grid.specs.Values.{is_value}
use Rattle.ascii_grid.specs.Keys.{placed}
use Rattle.ascii_grid.specs.Grid.{grid_of}

-- a key's name, filled with spaces to 13 columns
abbrev pub label : List ℕ → List ℕ
label key = key ++ replicate (13 - length key) space_byte

-- a key, its value and a line feed
abbrev pub line : List ℕ → List ℕ → List ℕ
line key value = label key ++ (value ++ line_feed ∷ [])

-- the edges and the sizes that are written, rounded to 16 places: those of a geotransform, or else the place 0 and
-- sizes of one unit
abbrev pub placing_of : Size → Option Transform → Placing
placing_of size None = record { left = pos 0; bottom = pos 0; width = pos unit; height = pos unit }
placing_of size (Some g) = record {
  left = sixteen_places g.ox;
  bottom = sixteen_places (along g.oy g.dy (pos size.h));
  width = sixteen_places g.dx;
  height = sixteen_places (neg_ℤ g.dy);
}

abbrev pub size_lines : Size → List ℕ
size_lines size = line (codes "ncols") (decimal size.w) ++ line (codes "nrows") (decimal size.h)

abbrev pub edge_lines : Placing → List ℕ
edge_lines p = line (codes "xllcorner") (short_text p.left) ++ line (codes "yllcorner") (short_text p.bottom)

-- one size where the two agree
abbrev pub step_lines : Placing → List ℕ
step_lines p = if are_same p.width p.height then line (codes "cellsize") (short_text p.width)
    else (line (codes "dx") (short_text p.width) ++ line (codes "dy") (short_text p.height))

abbrev pub nodata_line : Option ℤ → List ℕ
nodata_line None = []
nodata_line (Some n) = line (codes "NODATA_value") (signed_decimal n)

-- the lines in front of the rows
abbrev pub head_lines : Size → Placing → Option ℤ → List ℕ
head_lines size p nodata = size_lines size ++ (edge_lines p ++ (step_lines p ++ nodata_line nodata))

unfoldable pub head_text : Size → Option Transform → Option ℤ → List ℕ
head_text size geo nodata = head_lines size (placing_of size geo) nodata

-- a value behind another
abbrev pub more_text : ℤ → List ℕ
more_text x = space_byte ∷ signed_decimal x

-- the values of a row, one space between two, and a line feed
abbrev pub row_text : List ℤ → List ℕ
row_text [] = line_feed ∷ []
row_text (x ∷ xs) = signed_decimal x ++ (flat_map more_text xs ++ line_feed ∷ [])

-- rows of values of the band, all of this length
pub record AreRows (w : ℕ) (rows : List (List ℤ)) : Type 0 where
  pub long : All (λ row. length row ≡ w) rows
  pub values : All (λ row. All (λ n. is_value n ≡ true) row) rows

-- a coordinate that is written stays below 10^12 units, a size also above 0
pub record IsReadAgain (size : Size) (p : Placing) (geo : Transform) : Type 0 where
  pub left : IsNear p.left
  pub bottom : IsNear p.bottom
  pub wide : pos 0 <ℤ p.width
  pub high : pos 0 <ℤ p.height
  pub width : IsNear p.width
  pub height : IsNear p.height
  pub placed : placed p.left p.bottom (unsigned_abs p.width, unsigned_abs p.height) size.h ≡ Some geo

-- a text is a grid with this head, wherever its rows begin, and these values
pub record IsGridOf (text : List ℕ) (size : Size) (geo : Transform) (nodata : Option ℤ) (values : List ℤ) : Type 0 where
  pub rows : List ℕ
  pub grid : grid_of text ≡ Ok (record {
    head = record { size = size; geo = geo; nodata = nodata; rows = rows };
    values = values;
  })
