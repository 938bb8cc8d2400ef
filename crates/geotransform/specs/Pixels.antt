-- Where pixels lie.
use Rattle.std.specs.Prelude.{ℕ, ℤ, pos, negsuc, ◌+◌, ◌<◌, ◌≤◌, nat_lt, Option, Some, None, if◌then◌else◌}
use Rattle.geotransform.specs.declared.types.Rect.{Rect}

-- a whole number as a column or a line of a side, where it lies on the side
abbrev pub within : ℕ → ℤ → Option ℕ
within side (pos n) = if nat_lt n side then Some n else None
within side (negsuc n) = None

-- the column and the line lie in the rectangle
pub record IsInside (rect : Rect) (x y : ℕ) : Type 0 where
  pub left : rect.x ≤ x
  pub right : x < rect.x + rect.w
  pub top : rect.y ≤ y
  pub bottom : y < rect.y + rect.h
