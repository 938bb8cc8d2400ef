-- The grid that a text gives, or its first fault.
use Rattle.std.specs.Prelude.{◌≡◌, ◌<◌, ◌≤◌, ℕ, ℤ, pos, true, ◌+◌, ◌-◌, ◌*◌, List, [], ◌∷◌, length, map, Option, None}
use Rattle.std.specs.Prelude.{Result, Ok, Err, ok_or, IfSome, ◌==◌, if◌then◌else◌, get_or}
use Rattle.std.specs.List.{range_with_len}
use Rattle.lists_and_answers.specs.Answers.{◌>>=◌}
use Rattle.geotransform.specs.Geo.{Transform, IsRaster, IsTransform}
use Rattle.geotransform.specs.declared.types.Size.{Size}
use Rattle.ascii_grid.specs.declared.faults.GridFault.{GridFault}
use Rattle.ascii_grid.specs.declared.faults.GridFault.TheVariants.{BadToken, TooFew, TooMany}
use Rattle.ascii_grid.specs.declared.head_parts.Found.{Found}
use Rattle.ascii_grid.specs.declared.head_parts.Shape.{Shape}
use Rattle.ascii_grid.specs.Tokens.{Token, tokens}
use Rattle.ascii_grid.specs.Values.{is_body_start, value_in, is_value}
use Rattle.ascii_grid.specs.Keys.{key_of, with_value, shape_of}

-- The head: pairs of a key and a value, up to the first token of the body. What it says, and the tokens of the body.
-- A key that is the last token has no value and is passed over.
unfoldable pub head_of : Found → List Token → Result (Found × List Token) GridFault
head_of f [] = Ok (f, [])
head_of f (k ∷ []) = if is_body_start k.text then Ok (f, k ∷ []) else (do
  key ← ok_or (key_of k.text) (BadToken k.at)
  Ok (f, []))
head_of f (k ∷ (v ∷ more)) = if is_body_start k.text then Ok (f, k ∷ (v ∷ more)) else (do
  key ← ok_or (key_of k.text) (BadToken k.at)
  g ← with_value f key v
  head_of g more)

-- the values of the body, which has this many of them
unfoldable pub body_of : ℕ → List Token → Result (List ℤ) GridFault
body_of needed [] = if needed == 0 then Ok [] else Err TooFew
body_of needed (t ∷ more) = if needed == 0 then Err (TooMany t.at) else (do
  v ← value_in t.at t.text
  rest ← body_of (needed - 1) more
  Ok (v ∷ rest))

-- the places of the tokens in column 0, from column x on
abbrev pub rows_of : ℕ → ℕ → List Token → List ℕ
rows_of w x [] = []
rows_of w x (t ∷ more) =
    let rest = if x + 1 == w then rows_of w 0 more else rows_of w (x + 1) more in
    if x == 0 then t.at ∷ rest else rest

-- the head of a grid: its raster, its NODATA, and the place of the first token of each row
pub record Head : Type 0 where
  pub size : Size
  pub geo : Transform
  pub nodata : Option ℤ
  pub rows : List ℕ

-- the head of a raster whose rows have these places
abbrev pub head_with : Shape → List ℕ → Head
head_with s rows = record { size = record { w = s.w; h = s.h }; geo = s.geo; nodata = s.nodata; rows = rows }

-- a grid: its head, and its values row by row
pub record Grid : Type 0 where
  pub head : Head
  pub values : List ℤ

-- the grid of a head and the tokens behind it
unfoldable pub grid_in : Found × List Token → Result Grid GridFault
grid_in h = do
  s ← shape_of h.0
  values ← body_of (s.w * s.h) h.1
  Ok (record { head = head_with s (rows_of s.w 0 h.1); values = values })

abbrev pub nothing : Found
nothing = record {
  ncols = None;
  nrows = None;
  x = None;
  y = None;
  cellsize = None;
  dx = None;
  dy = None;
  nodata = None;
}

-- the grid that a text gives, or its first fault
unfoldable pub grid_of : List ℕ → Result Grid GridFault
grid_of text = do
  h ← head_of nothing (tokens text)
  grid_in h

-- the head that a text gives, or its first fault
abbrev pub grid_head : List ℕ → Result Head GridFault
grid_head text = grid_of text >>= λ g. Ok g.head

-- what every head keeps: the limits of a raster, one place for each row, and a NODATA of the band
pub record IsHead (h : Head) : Type 0 where
  pub size : IsRaster h.size
  pub geo : IsTransform h.geo
  pub rows : length h.rows ≡ h.size.h
  pub nodata : IfSome h.nodata (λ n. is_value n ≡ true)

-- places that rise, the first at least this one, all before an end
abbrev pub AreRising : ℕ → ℕ → List ℕ → Type 0
AreRising least end [] = Unit {0}
AreRising least end (p ∷ ps) = (least ≤ p) × (p < end) × AreRising (p + 1) end ps

-- the value in column x, line y
abbrev pub grid_value_at : Grid → ℕ → ℕ → ℤ
grid_value_at g x y = get_or g.values (y * g.head.size.w + x) (pos 0)

-- the value of a text in column x, line y, where it is a grid
abbrev pub ascii_by : Result Grid GridFault → ℕ → ℕ → ℤ
ascii_by (Ok g) x y = grid_value_at g x y
ascii_by (Err f) x y = pos 0

abbrev pub ascii_at : List ℕ → ℕ → ℕ → ℤ
ascii_at text x y = ascii_by (grid_of text) x y

-- n values of a text from column x of line y on
abbrev pub line_of : List ℕ → ℕ → ℕ → ℕ → List ℤ
line_of text x y n = map (λ i. ascii_at text (x + i) y) (range_with_len 0 n)
