-- Rasters whose outer pixels have their centres at whole degrees one apart.
use Rattle.std.specs.Prelude.{ℕ, ℤ, pos, neg_ℤ, ◌+ℤ◌, ◌-ℤ◌, ◌*ℤ◌, ◌-◌, ◌*◌, ◌≤◌, Bool, ◌&&◌, Option, Some, None, Result}
use Rattle.std.specs.Prelude.{Ok, Err, nat_le, int_lt, int_le, if◌then◌else◌, unsigned_abs}
use Rattle.lists_and_answers.specs.Options.{◌>>=◌}
use Rattle.geotransform.specs.Print.{unit}
use Rattle.geotransform.specs.Places.{floor_of}
use Rattle.geotransform.specs.Geo.{Transform, along}
use Rattle.geotransform.specs.declared.faults.Unfit.{Unfit}

-- so many whole degrees in ticks
abbrev pub degrees : ℤ → ℤ
degrees n = n *ℤ pos unit

-- twice the centre of column or line k, which is the middle between its two sides
abbrev pub twice_centre : ℤ → ℤ → ℤ → ℤ
twice_centre start step k = along start step k +ℤ along start step (k +ℤ pos 1)

-- the whole degree nearest to half of so many ticks
abbrev pub degree_near : ℤ → ℤ
degree_near twice = floor_of (twice +ℤ pos unit) (pos (2 * unit))

-- whether half of so many ticks is within a thousandth of a spacing of a whole degree
abbrev pub is_at_degree : ℕ → ℤ → ℤ → Bool
is_at_degree spacing twice degree = nat_le (1000 * unsigned_abs (twice -ℤ pos 2 *ℤ degrees degree)) (2 * spacing)

-- a degree from -limit on and below the limit
abbrev pub in_range : ℕ → ℤ → Option ℤ
in_range limit d = if int_le (neg_ℤ (pos limit)) d && int_lt d (pos limit) then Some d else None

-- whether one centre is at a degree and the other at the next
abbrev pub are_at : ℕ → ℤ → ℤ → ℤ → Bool
are_at spacing first second d = is_at_degree spacing first d && is_at_degree spacing second (d +ℤ pos 1)

-- a degree, where one centre is at it and the other at the next
abbrev pub when_between : ℕ → ℤ → ℤ → ℤ → Option ℤ
when_between spacing first second d = if are_at spacing first second d then Some d else None

-- the degree in the limit at which one centre is, where the other is at the next
abbrev pub degree_between : ℕ → ℕ → ℤ → ℤ → Option ℤ
degree_between spacing limit first second = in_range limit (degree_near first) >>= when_between spacing first second

-- twice the centre of the first column, and of the last of so many
abbrev pub twice_west : Transform → ℤ
twice_west g = twice_centre g.ox g.dx (pos 0)

abbrev pub twice_east : Transform → ℕ → ℤ
twice_east g columns = twice_centre g.ox g.dx (pos (columns - 1))

-- twice the centre of the last of so many lines, and of the first
abbrev pub twice_south : Transform → ℕ → ℤ
twice_south g lines = twice_centre g.oy g.dy (pos (lines - 1))

abbrev pub twice_north : Transform → ℤ
twice_north g = twice_centre g.oy g.dy (pos 0)

-- the longitude of the first of so many columns, where the outer ones are at whole degrees one apart
abbrev pub lon_of : ℕ → ℕ → Transform → Option ℤ
lon_of spacing columns g = degree_between spacing 180 (twice_west g) (twice_east g columns)

-- the latitude of the last of so many lines, where the outer ones are at whole degrees one apart
abbrev pub lat_of : ℕ → ℕ → Transform → Option ℤ
lat_of spacing lines g = degree_between spacing 90 (twice_south g lines) (twice_north g)

-- what is found, or that the raster doesn't fit
abbrev pub or_unfit : {A : Type 0} → Option A → Result A Unfit
or_unfit None = Err (record {})
or_unfit (Some x) = Ok x

-- half of so many ticks is within a thousandth of a spacing of a whole degree
abbrev pub IsAtDegree : ℕ → ℤ → ℤ → Type 0
IsAtDegree spacing twice degree = 1000 * unsigned_abs (twice -ℤ pos 2 *ℤ degrees degree) ≤ 2 * spacing
