-- Grids whose rows are written one after another.
use Rattle.std.specs.Prelude.{◌≡◌, ◌≤◌, ℤ, true, List, length, Option, IfSome}
use Rattle.geotransform.specs.Geo.{Transform, IsRaster}
use Rattle.geotransform.specs.declared.types.Size.{Size}
use Rattle.ascii_grid.specs.Values.{is_value}
use Rattle.ascii_grid.specs.Text.{placing_of, AreRows, IsReadAgain}

-- a head that may be written of a grid, whose place is read again as a geotransform
pub record IsGridHead (size : Size) (geo : Option Transform) (nodata : Option ℤ) (read : Transform) : Type 0 where
  pub raster : IsRaster size
  pub in_band : IfSome nodata (λ n. is_value n ≡ true)
  pub again : IsReadAgain size (placing_of size geo) read

-- the first rows of a grid of this size
pub record AreFirstRows (size : Size) (rows : List (List ℤ)) : Type 0 where
  pub each : AreRows size.w rows
  pub count : length rows ≤ size.h
