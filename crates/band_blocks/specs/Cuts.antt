-- Rectangles that are cut by a line.
use Rattle.std.specs.Prelude.{◌≡◌, ◌+◌}
use Rattle.geotransform.specs.declared.types.Rect.{Rect}

-- a rectangle is cut by a line: the lines of the upper part are its first ones, and those of the lower part all others
pub record IsCutByLine (whole upper lower : Rect) : Type 0 where
  pub upper_left : upper.x ≡ whole.x
  pub upper_wide : upper.w ≡ whole.w
  pub top : upper.y ≡ whole.y
  pub lower_left : lower.x ≡ whole.x
  pub lower_wide : lower.w ≡ whole.w
  pub line : lower.y ≡ whole.y + upper.h
  pub lines : whole.h ≡ upper.h + lower.h
