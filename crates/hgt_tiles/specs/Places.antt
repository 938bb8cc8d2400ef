-- Where the pixels of a tile lie, and which rasters are tiles.
use Rattle.std.specs.Prelude.{◌≡◌, ◌⊎◌, ◌<ℤ◌, ◌≤ℤ◌, ℕ, pos, negsuc, neg_ℤ, ◌+ℤ◌, ◌-ℤ◌, ◌-◌, ◌/◌}
use Rattle.std.specs.Prelude.{◌&&◌, ◌||◌, Option, Some, None, ◌==◌}
use Rattle.std.specs.Prelude.{if◌then◌else◌}
use Rattle.lists_and_answers.specs.Options.{◌>>=◌}
use Rattle.geotransform.specs.Print.{unit}
use Rattle.geotransform.specs.Geo.{Transform, is_north_up}
use Rattle.geotransform.specs.Degrees.{degrees, twice_west, twice_east, twice_south, twice_north, lon_of, lat_of}
use Rattle.geotransform.specs.Degrees.{IsAtDegree}
use Rattle.geotransform.specs.declared.types.Size.{Size}
use Rattle.hgt_tiles.specs.Names.{Place}

-- the columns, and lines, of a tile whose file has so many bytes
abbrev pub side_of_length : ℕ → Option ℕ
side_of_length len = if len == 2884802 then Some 1201 else (if len == 25934402 then Some 3601 else None)

-- a number of columns that tiles have
abbrev pub IsSide : ℕ → Type 0
IsSide side = (side ≡ 1201) ⊎ (side ≡ 3601)

-- from one pixel to the next, in ticks: 1/1200 or 1/3600 degree
abbrev pub spacing : ℕ → ℕ
spacing side = unit / (side - 1)

-- the geotransform of a tile whose lower left pixel has its centre at the corner
abbrev pub tile_transform : Place → ℕ → Transform
tile_transform p side = record {
  ox = degrees p.lon -ℤ pos (spacing side / 2);
  oy = degrees (p.lat +ℤ pos 1) +ℤ pos (spacing side / 2);
  dx = pos (spacing side);
  dy = neg_ℤ (pos (spacing side));
}

-- the columns of a raster that has as many lines, and as many as a tile
abbrev pub side_of_size : Size → Option ℕ
side_of_size size = if (size.w == size.h) && ((size.w == 1201) || (size.w == 3601)) then Some size.w else None

-- the corner of the tile that a raster is
unfoldable pub tile_of : Size → Transform → Option Place
tile_of size g = do
  side ← side_of_size size
  lon ← lon_of (spacing side) side g
  lat ← lat_of (spacing side) side g
  if is_north_up g then Some (record { lat = lat; lon = lon }) else None

-- a raster is the tile of a corner: as many columns and lines as a tile, from north to south, the centres of the outer
-- pixels at whole degrees one apart
pub record IsTile (size : Size) (g : Transform) (p : Place) : Type 0 where
  pub square : size.w ≡ size.h
  pub side : IsSide size.w
  pub eastward : pos 0 <ℤ g.dx
  pub southward : g.dy <ℤ pos 0
  pub west : IsAtDegree (spacing size.w) (twice_west g) p.lon
  pub east : IsAtDegree (spacing size.w) (twice_east g size.w) (p.lon +ℤ pos 1)
  pub south : IsAtDegree (spacing size.w) (twice_south g size.w) p.lat
  pub north : IsAtDegree (spacing size.w) (twice_north g) (p.lat +ℤ pos 1)
  pub lon_least : negsuc 179 ≤ℤ p.lon
  pub lon_most : p.lon ≤ℤ pos 179
  pub lat_least : negsuc 89 ≤ℤ p.lat
  pub lat_most : p.lat ≤ℤ pos 89
