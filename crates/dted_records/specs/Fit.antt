-- The cells that rasters are.
use Rattle.std.specs.Prelude.{◌≡◌, ◌⊎◌, ◌<ℤ◌, ◌≤ℤ◌, ℕ, ℤ, pos, negsuc, ◌+ℤ◌, ◌*ℤ◌, ◌+◌, ◌-◌, ◌*◌, ◌/◌, ◌%◌, Bool}
use Rattle.std.specs.Prelude.{Option, Some, None, nat_lt, ◌==◌, if◌then◌else◌, unsigned_abs}
use Rattle.lists_and_answers.specs.Options.{◌>>=◌}
use Rattle.geotransform.specs.Geo.{Transform, is_north_up}
use Rattle.geotransform.specs.Degrees.{degree_near, twice_west, twice_east, twice_south, twice_north, lon_of, lat_of}
use Rattle.geotransform.specs.Degrees.{IsAtDegree}
use Rattle.geotransform.specs.declared.types.Size.{Size}
use Rattle.dted_records.specs.Head.{Head}
use Rattle.dted_records.specs.Places.{spacing}

-- the points of a line of a cell of a level, both ends of a degree included
abbrev pub points_of : ℕ → ℕ
points_of level = if level == 0 then 121 else (if level == 1 then 1201 else 3601)

-- the latitude step of a level, in tenths of an arc second
abbrev pub step_of : ℕ → ℕ
step_of level = if level == 0 then 300 else (if level == 1 then 30 else 10)

-- the degrees from the equator to the nearer edge of the degree of latitude that begins at this one
abbrev pub edge_of : ℤ → ℕ
edge_of (pos n) = n
edge_of (negsuc n) = n

-- how many latitude steps a longitude step has, so many degrees from the equator
abbrev pub factor_at : ℕ → Option ℕ
factor_at e = if nat_lt e 50 then Some 1 else (if nat_lt e 70 then Some 2
    else (if nat_lt e 75 then Some 3 else (if nat_lt e 80 then Some 4 else (if nat_lt e 90 then Some 6 else None))))

-- the lines of longitude of a cell of a level, both ends of a degree included
abbrev pub cell_lines : ℕ → ℕ → ℕ
cell_lines level factor = (points_of level - 1) / factor + 1

-- an answer where something holds, and none where it doesn't
abbrev pub holds : Bool → Option (Unit {0})
holds b = if b then Some tt else None

-- the head of a cell whose lower left post is at whole degrees
abbrev pub cell_head : ℕ → ℕ → ℤ → ℤ → Head
cell_head level factor lat lon = record {
  skip = 0;
  lon = lon *ℤ pos 3600;
  lat = lat *ℤ pos 3600;
  lon_step = step_of level * factor;
  lat_step = step_of level;
  lines = cell_lines level factor;
  points = points_of level;
}

-- the head of the cell of a level that a raster is, whose pixels have the posts as their centres
unfoldable pub cell_of : ℕ → Size → Transform → Option Head
cell_of level size g = do
  up ← holds (is_north_up g)
  points ← holds (size.h == points_of level)
  factor ← factor_at (edge_of (degree_near (twice_south g size.h)))
  lines ← holds (size.w == cell_lines level factor)
  lat ← lat_of (spacing (step_of level)) size.h g
  lon ← lon_of (spacing (step_of level * factor)) size.w g
  Some (cell_head level factor lat lon)

-- the points that the levels have
abbrev pub IsLevelled : ℕ → Type 0
IsLevelled points = (points ≡ 121) ⊎ ((points ≡ 1201) ⊎ (points ≡ 3601))

-- a head that can be written: nothing leads, the origin is at whole degrees, and the points are those of a level
pub record IsPlain (h : Head) : Type 0 where
  pub front : h.skip ≡ 0
  pub lon : unsigned_abs h.lon % 3600 ≡ 0
  pub lat : unsigned_abs h.lat % 3600 ≡ 0
  pub points : IsLevelled h.points

-- a raster is the cell of a level at whole degrees: from north to south, with the posts of the level, the outer ones at
-- whole degrees one apart
pub record IsCell (level : ℕ) (size : Size) (g : Transform) (factor : ℕ) (lat lon : ℤ) : Type 0 where
  pub eastward : pos 0 <ℤ g.dx
  pub southward : g.dy <ℤ pos 0
  pub points : size.h ≡ points_of level
  pub zone : factor_at (edge_of lat) ≡ Some factor
  pub lines : size.w ≡ cell_lines level factor
  pub west : IsAtDegree (spacing (step_of level * factor)) (twice_west g) lon
  pub east : IsAtDegree (spacing (step_of level * factor)) (twice_east g size.w) (lon +ℤ pos 1)
  pub south : IsAtDegree (spacing (step_of level)) (twice_south g size.h) lat
  pub north : IsAtDegree (spacing (step_of level)) (twice_north g) (lat +ℤ pos 1)
  pub lon_least : negsuc 179 ≤ℤ lon
  pub lon_most : lon ≤ℤ pos 179
  pub lat_least : negsuc 89 ≤ℤ lat
  pub lat_most : lat ≤ℤ pos 89

-- a head is that of the cell that a raster is
pub record IsFitted (level : ℕ) (size : Size) (g : Transform) (h : Head) : Type 0 where
  pub factor : ℕ
  pub lat : ℤ
  pub lon : ℤ
  pub cell : IsCell level size g factor lat lon
  pub head : h ≡ cell_head level factor lat lon
