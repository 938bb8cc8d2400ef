-- The limits of all rasters and numbers, whatever their format.
use Rattle.std.specs.Prelude.{ℕ, ◌^◌}

-- The most columns of a raster, and the most lines.
abbrev pub most_side : ℕ
most_side = 4194304

-- The most bands of a raster.
abbrev pub most_bands : ℕ
most_bands = 256

-- The greatest offset of a rectangle in pixels, to either side.
abbrev pub farthest : ℕ
farthest = 8388608

-- The most steps from the origin that a place is asked for, in half pixels too.
abbrev pub most_steps : ℕ
most_steps = 16777216

-- The most bytes of a decimal text.
abbrev pub longest_decimal : ℕ
longest_decimal = 64

-- The most digits of a plain number.
abbrev pub most_digits : ℕ
most_digits = 18

-- The most digits of a short one.
abbrev pub most_short_digits : ℕ
most_short_digits = 9

-- Places and sizes of pixels stay below so many units in magnitude.
abbrev pub unit_limit : ℕ
unit_limit = 10 ^ 12

-- The value of a decimal text stays below so many sixteenth places, where it is read as ticks.
abbrev pub sixteenth_limit : ℕ
sixteenth_limit = 10 ^ 28

-- The whole number of a decimal text stays below it.
abbrev pub whole_limit : ℕ
whole_limit = 10 ^ 20
