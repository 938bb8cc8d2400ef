-- The limits that windows and chosen bands keep.
use Rattle.std.specs.Prelude.{◌≤◌, unsigned_abs, ℕ, List, All}
use Rattle.geotransform.specs.Limits.{farthest}
use Rattle.geotransform.specs.Geo.{IsRaster}
use Rattle.translate_plan.specs.declared.window.Window.{Window}

-- what a window keeps
pub record IsWindow (v : Window) : Type 0 where
  pub x : unsigned_abs v.x ≤ farthest
  pub y : unsigned_abs v.y ≤ farthest
  pub size : IsRaster v.size

-- no number is past the source's bands
pub record AreKnown (bands : List ℕ) (count : ℕ) : Type 0 where
  pub each : All (λ b. b ≤ count) bands
