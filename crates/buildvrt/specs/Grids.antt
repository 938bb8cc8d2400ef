-- The grid of a mosaic: the size of its pixels, its extent, its columns and lines.
use Rattle.std.specs.Prelude.{ℕ, ℤ, pos, neg_ℤ, ◌+ℤ◌, ◌-ℤ◌, ◌<◌, ◌^◌, ◌<ℤ◌, int_lt, List, [], ◌∷◌, length, Option, None}
use Rattle.std.specs.Prelude.{Some, if◌then◌else◌, unsigned_abs}
use Rattle.lists_and_answers.specs.Options.{◌>>=◌}
use Rattle.geotransform.specs.Geo.{Transform, transform_of, along, IsRaster, IsNear}
use Rattle.geotransform.specs.Places.{half, rounded_up, sixteen_places}
use Rattle.geotransform.specs.declared.types.Size.{Size}
use Rattle.vrt_profile.specs.Values.{IsDecimal}
use Rattle.buildvrt.specs.Options.{Options}
use Rattle.buildvrt.specs.Tiles.{TileValue}
use Rattle.buildvrt.specs.declared.options.Resolution.{Resolution}
use Rattle.buildvrt.specs.declared.options.Resolution.TheVariants.{Highest, Lowest, Average, User}
use Rattle.buildvrt.specs.declared.options.Extent.{Extent}
use Rattle.buildvrt.specs.declared.grid.Measure.{Measure}
use Rattle.buildvrt.specs.declared.grid.Measure.TheVariants.{ColumnStep, LineStep, Left, Right, Top, Bottom}
use Rattle.geotransform.specs.Limits.{most_side}

-- A number of an input: the sides of its pixels, counted positive, and its edges.
abbrev pub measure : Measure → TileValue → ℤ
measure ColumnStep t = t.place.dx
measure LineStep t = neg_ℤ t.place.dy
measure Left t = t.place.ox
measure Right t = along t.place.ox t.place.dx (pos t.head.size.w)
measure Top t = t.place.oy
measure Bottom t = along t.place.oy t.place.dy (pos t.head.size.h)

-- of two numbers the less, and the greater
abbrev pub less_of : ℤ → ℤ → ℤ
less_of x y = if int_lt y x then y else x

abbrev pub greater_of : ℤ → ℤ → ℤ
greater_of x y = if int_lt x y then y else x

-- the least, the greatest and the sum of a number and of those of these inputs
abbrev pub least_from : Measure → ℤ → List TileValue → ℤ
least_from m x [] = x
least_from m x (t ∷ ts) = least_from m (less_of x (measure m t)) ts

abbrev pub greatest_from : Measure → ℤ → List TileValue → ℤ
greatest_from m x [] = x
greatest_from m x (t ∷ ts) = greatest_from m (greater_of x (measure m t)) ts

abbrev pub sum_from : Measure → ℤ → List TileValue → ℤ
sum_from m x [] = x
sum_from m x (t ∷ ts) = sum_from m (x +ℤ measure m t) ts

-- Of a measure of some inputs: the least, the greatest, and the mean, rounded to ticks half away from zero; 0 of none.
abbrev pub least : Measure → List TileValue → ℤ
least m [] = pos 0
least m (t ∷ ts) = least_from m (measure m t) ts

-- the greatest of a measure of some inputs, and 0 of none
abbrev pub greatest : Measure → List TileValue → ℤ
greatest m [] = pos 0
greatest m (t ∷ ts) = greatest_from m (measure m t) ts

-- the mean of a measure of some inputs, rounded to ticks half away from zero
abbrev pub mean : Measure → List TileValue → ℤ
mean m tiles = half (sum_from m (pos 0) tiles) (length tiles)

-- the sides of the mosaic's pixels
abbrev pub steps_by : Resolution → List TileValue → ℤ × ℤ
steps_by Highest tiles = (least ColumnStep tiles, least LineStep tiles)
steps_by Lowest tiles = (greatest ColumnStep tiles, greatest LineStep tiles)
steps_by Average tiles = (mean ColumnStep tiles, mean LineStep tiles)
steps_by (User dx dy) tiles = (dx, dy)

-- the sides of the mosaic's pixels, by the resolution that is asked for
abbrev pub steps_of : Options → List TileValue → ℤ × ℤ
steps_of o tiles = steps_by o.resolution tiles

-- the union of the inputs
abbrev pub union_of : List TileValue → Extent
union_of tiles = record {
  xmin = least Left tiles;
  ymin = least Bottom tiles;
  xmax = greatest Right tiles;
  ymax = greatest Top tiles;
}

-- the given extent, or else the union of the inputs
abbrev pub extent_by : Option Extent → List TileValue → Extent
extent_by None tiles = union_of tiles
extent_by (Some e) tiles = e

-- the extent of a mosaic of inputs
abbrev pub extent_of : Options → List TileValue → Extent
extent_of o tiles = extent_by o.extent tiles

-- how many steps a way has, rounded up, and 1 at least
abbrev pub some_pixels : ℤ → ℤ → ℤ
some_pixels way step = greater_of (pos 1) (rounded_up way step)

-- the columns, or lines, of a mosaic, where they are within the limit
abbrev pub side_within : ℤ → Option ℕ
side_within n = if int_lt (pos most_side) n then None else Some (unsigned_abs n)

-- how many pixels of a step a way has, where they are within the limit
abbrev pub side_of : ℤ → ℤ → Option ℕ
side_of way step = side_within (some_pixels way step)

-- A grid: its upper left corner and the sides of its pixels, which are positive, before they are rounded to 16 places;
-- its size; and its geotransform of rounded numbers.
pub record GridValue : Type 0 where
  pub left : ℤ
  pub top : ℤ
  pub dx : ℤ
  pub dy : ℤ
  pub size : Size
  pub geo : Transform

-- the geotransform of these numbers rounded to 16 places, where it is one
abbrev pub rounded_transform : ℤ → ℤ → ℤ → ℤ → Option Transform
rounded_transform left top dx dy =
    transform_of (sixteen_places left) (sixteen_places top) (sixteen_places dx) (sixteen_places (neg_ℤ dy))

-- the grid of an extent, where it is within the limits
unfoldable pub grid_by : Extent → ℤ × ℤ → Option GridValue
grid_by e steps = do
  w ← side_of (e.xmax -ℤ e.xmin) steps.0
  h ← side_of (e.ymax -ℤ e.ymin) steps.1
  geo ← rounded_transform e.xmin e.ymax steps.0 steps.1
  Some (record { left = e.xmin; top = e.ymax; dx = steps.0; dy = steps.1; size = record { w = w; h = h }; geo = geo })

-- the grid of a mosaic of inputs, where it is within the limits
abbrev pub grid_of : Options → List TileValue → Option GridValue
grid_of o tiles = grid_by (extent_of o tiles) (steps_of o tiles)

-- the sides of a mosaic's pixels stay below so many ticks
abbrev pub step_limit : ℕ
step_limit = 10 ^ 35

-- the side of a mosaic's pixel is above 0 and below the limit
pub record IsStep (v : ℤ) : Type 0 where
  pub above : pos 0 <ℤ v
  pub low : unsigned_abs v < step_limit

-- what the grid of a mosaic keeps
pub record IsGrid (g : GridValue) : Type 0 where
  pub left : IsNear g.left
  pub top : IsNear g.top
  pub column : IsStep g.dx
  pub line : IsStep g.dy
  pub size : IsRaster g.size
  pub geo : IsDecimal g.geo
