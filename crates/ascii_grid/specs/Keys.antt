-- The keys of the head, and what they say.
use Rattle.std.specs.Prelude.{ℕ, ℤ, pos, neg_ℤ, ◌+ℤ◌, ◌-ℤ◌, ◌*◌, ◌/◌, List, codes, Option, Some, None, Result, Ok}
use Rattle.std.specs.Prelude.{ok_or, if◌then◌else◌}
use Rattle.lists_and_answers.specs.Answers.{◌>>=◌}
use Rattle.lists_and_answers.specs.Texts.{same_letters}
use Rattle.geotransform.specs.Geo.{Transform, transform_of}
use Rattle.ascii_grid.specs.declared.faults.GridFault.{GridFault}
use Rattle.ascii_grid.specs.declared.faults.GridFault.TheVariants.{MissingKey, Limit}
use Rattle.ascii_grid.specs.declared.head_parts.Key.{Key}
use Rattle.ascii_grid.specs.declared.head_parts.Key.TheVariants.{Ncols, Nrows, Xllcorner, Xllcenter, Yllcorner}
use Rattle.ascii_grid.specs.declared.head_parts.Key.TheVariants.{Yllcenter, Cellsize, Dx, Dy, Nodata}
use Rattle.ascii_grid.specs.declared.head_parts.LowerLeft.{LowerLeft}
use Rattle.ascii_grid.specs.declared.head_parts.LowerLeft.TheVariants.{Edge, Centre}
use Rattle.ascii_grid.specs.declared.head_parts.Found.{Found}
use Rattle.ascii_grid.specs.declared.head_parts.Shape.{Shape}
use Rattle.ascii_grid.specs.Tokens.{Token}
use Rattle.ascii_grid.specs.Values.{side_in, coordinate_in, step_in, nodata_in}

-- the key that a token names
abbrev pub key_of : List ℕ → Option Key
key_of text =
    if same_letters text (codes "ncols") then Some Ncols else
    (if same_letters text (codes "nrows") then Some Nrows else
    (if same_letters text (codes "xllcorner") then Some Xllcorner else
    (if same_letters text (codes "xllcenter") then Some Xllcenter else
    (if same_letters text (codes "yllcorner") then Some Yllcorner else
    (if same_letters text (codes "yllcenter") then Some Yllcenter else
    (if same_letters text (codes "cellsize") then Some Cellsize else
    (if same_letters text (codes "dx") then Some Dx else
    (if same_letters text (codes "dy") then Some Dy else
    (if same_letters text (codes "NODATA_value") then Some Nodata else None)))))))))

-- what was found, and a key's value that is found now
unfoldable pub with_value : Found → Key → Token → Result Found GridFault
with_value f Ncols t = do
  n ← side_in t.at t.text
  Ok (record {
    ncols = Some n;
    nrows = f.nrows;
    x = f.x;
    y = f.y;
    cellsize = f.cellsize;
    dx = f.dx;
    dy = f.dy;
    nodata = f.nodata;
  })
with_value f Nrows t = do
  n ← side_in t.at t.text
  Ok (record {
    ncols = f.ncols;
    nrows = Some n;
    x = f.x;
    y = f.y;
    cellsize = f.cellsize;
    dx = f.dx;
    dy = f.dy;
    nodata = f.nodata;
  })
with_value f Xllcorner t = do
  v ← coordinate_in t.at t.text
  Ok (record {
    ncols = f.ncols;
    nrows = f.nrows;
    x = Some (Edge v);
    y = f.y;
    cellsize = f.cellsize;
    dx = f.dx;
    dy = f.dy;
    nodata = f.nodata;
  })
with_value f Xllcenter t = do
  v ← coordinate_in t.at t.text
  Ok (record {
    ncols = f.ncols;
    nrows = f.nrows;
    x = Some (Centre v);
    y = f.y;
    cellsize = f.cellsize;
    dx = f.dx;
    dy = f.dy;
    nodata = f.nodata;
  })
with_value f Yllcorner t = do
  v ← coordinate_in t.at t.text
  Ok (record {
    ncols = f.ncols;
    nrows = f.nrows;
    x = f.x;
    y = Some (Edge v);
    cellsize = f.cellsize;
    dx = f.dx;
    dy = f.dy;
    nodata = f.nodata;
  })
with_value f Yllcenter t = do
  v ← coordinate_in t.at t.text
  Ok (record {
    ncols = f.ncols;
    nrows = f.nrows;
    x = f.x;
    y = Some (Centre v);
    cellsize = f.cellsize;
    dx = f.dx;
    dy = f.dy;
    nodata = f.nodata;
  })
with_value f Cellsize t = do
  d ← step_in t.at t.text
  Ok (record {
    ncols = f.ncols;
    nrows = f.nrows;
    x = f.x;
    y = f.y;
    cellsize = Some d;
    dx = f.dx;
    dy = f.dy;
    nodata = f.nodata;
  })
with_value f Dx t = do
  d ← step_in t.at t.text
  Ok (record {
    ncols = f.ncols;
    nrows = f.nrows;
    x = f.x;
    y = f.y;
    cellsize = f.cellsize;
    dx = Some d;
    dy = f.dy;
    nodata = f.nodata;
  })
with_value f Dy t = do
  d ← step_in t.at t.text
  Ok (record {
    ncols = f.ncols;
    nrows = f.nrows;
    x = f.x;
    y = f.y;
    cellsize = f.cellsize;
    dx = f.dx;
    dy = Some d;
    nodata = f.nodata;
  })
with_value f Nodata t = do
  n ← nodata_in t.at t.text
  Ok (record {
    ncols = f.ncols;
    nrows = f.nrows;
    x = f.x;
    y = f.y;
    cellsize = f.cellsize;
    dx = f.dx;
    dy = f.dy;
    nodata = n;
  })

-- the left or the lower edge of the lower left pixel, whose size is d
abbrev pub edge_of : LowerLeft → ℕ → ℤ
edge_of (Edge v) d = v
edge_of (Centre v) d = v -ℤ pos (d / 2)

-- the width and the height of a pixel: cellsize, or else dx and dy
abbrev pub steps_of : Option ℕ → Option ℕ → Option ℕ → Option (ℕ × ℕ)
steps_of (Some d) dx dy = Some (d, d)
steps_of None (Some dx) (Some dy) = Some (dx, dy)
steps_of None (Some dx) None = None
steps_of None None dy = None

-- the geotransform of h rows of pixels of these sizes, of which the lower left one has these edges
abbrev pub placed : ℤ → ℤ → ℕ × ℕ → ℕ → Option Transform
placed left bottom steps h = transform_of left (bottom +ℤ pos (h * steps.1)) (pos steps.0) (neg_ℤ (pos steps.1))

-- what the head says at its end
unfoldable pub shape_of : Found → Result Shape GridFault
shape_of f = do
  w ← ok_or f.ncols MissingKey
  h ← ok_or f.nrows MissingKey
  x ← ok_or f.x MissingKey
  y ← ok_or f.y MissingKey
  steps ← ok_or (steps_of f.cellsize f.dx f.dy) MissingKey
  geo ← ok_or (placed (edge_of x steps.0) (edge_of y steps.1) steps h) Limit
  Ok (record { w = w; h = h; geo = geo; nodata = f.nodata })
