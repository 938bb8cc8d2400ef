-- Which pixel of its dataset a source puts at a pixel of the mosaic.
use Rattle.std.specs.Prelude.{ℕ, ℤ, pos, ◌+ℤ◌, ◌-ℤ◌, ◌*ℤ◌, ◌+◌, ◌*◌, Bool, ◌&&◌, Option, Some, None}
use Rattle.std.specs.Prelude.{int_lt, int_le, if◌then◌else◌, unwrap_or}
use Rattle.lists_and_answers.specs.Options.{◌>>=◌}
use Rattle.geotransform.specs.Places.{floor_of}
use Rattle.geotransform.specs.declared.types.Size.{Size}
use Rattle.geotransform.specs.Pixels.{within}
use Rattle.vrt_profile.specs.Values.{million, Rectangle, SourceValue}

-- A source along one axis, in millionths of a pixel: so much of the mosaic from here on is made of so much of the
-- dataset from there on.
pub record Axis : Type 0 where
  pub mosaic_start : ℤ
  pub mosaic_length : ℤ
  pub dataset_start : ℤ
  pub dataset_length : ℤ

-- the centre of a column or a line
abbrev pub centre : ℕ → ℤ
centre x = pos (x * million + 500000)

-- whether a place is in the mosaic's part
abbrev pub is_covered : Axis → ℤ → Bool
is_covered a place = int_le a.mosaic_start place && int_lt place (a.mosaic_start +ℤ a.mosaic_length)

-- the column or the line of the dataset that lies at a place
abbrev pub dataset_at : Axis → ℤ → ℤ
dataset_at a place = floor_of (a.dataset_start *ℤ a.mosaic_length +ℤ (place -ℤ a.mosaic_start) *ℤ a.dataset_length)
    (a.mosaic_length *ℤ pos million)

-- At a column of the mosaic, the column of a dataset that has `count` columns; the same for lines.
abbrev pub axis_at : Axis → ℕ → ℕ → Option ℕ
axis_at a count x = if is_covered a (centre x) then within count (dataset_at a (centre x)) else None

-- the rectangle, or the whole raster where there is none
abbrev pub whole : Size → Rectangle
whole size = record { x = pos 0; y = pos 0; w = pos (size.w * million); h = pos (size.h * million) }

abbrev pub part_of : Option Rectangle → Size → Rectangle
part_of rectangle size = unwrap_or rectangle (whole size)

-- a source along the columns and along the lines
abbrev pub columns_by : Rectangle → Rectangle → Axis
columns_by dst src = record {
  mosaic_start = dst.x;
  mosaic_length = dst.w;
  dataset_start = src.x;
  dataset_length = src.w;
}

abbrev pub lines_by : Rectangle → Rectangle → Axis
lines_by dst src = record { mosaic_start = dst.y; mosaic_length = dst.h; dataset_start = src.y; dataset_length = src.h }

abbrev pub columns_of : SourceValue → Size → Size → Axis
columns_of s mosaic size = columns_by (part_of s.dst mosaic) (part_of s.src size)

abbrev pub lines_of : SourceValue → Size → Size → Axis
lines_of s mosaic size = lines_by (part_of s.dst mosaic) (part_of s.src size)

-- At column x, line y of a mosaic of size `mosaic`, the column and the line of the source's dataset, of size `size`.
unfoldable pub cover_of : SourceValue → Size → Size → ℕ → ℕ → Option (ℕ × ℕ)
cover_of s mosaic size x y = axis_at (columns_of s mosaic size) size.w x >>= λ column.
    axis_at (lines_of s mosaic size) size.h y >>= λ line. Some (column, line)
