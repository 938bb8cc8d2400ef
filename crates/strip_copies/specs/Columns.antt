-- The columns of a source that are read for a plan.
use Rattle.std.specs.Prelude.{◌+◌, ℕ, Option, Some, None, nat_lt, if◌then◌else◌, ℤ, pos, negsuc, min, ◌≡◌, ◌<◌, ◌≤◌}
use Rattle.std.specs.Prelude.{length, get_or}
use Rattle.geotransform.specs.Pixels.{within}
use Rattle.translate_plan.specs.Plan.{Planned, shown_column}
use Rattle.strip_copies.specs.declared.columns.Columns.{Columns}

-- the column at a place among n columns from `first` on
abbrev pub column_at : ℕ → ℕ → ℕ → Option ℕ
column_at first n place = if nat_lt place n then Some (first + place) else None

-- the number from 0 to a side that is nearest to a whole number
abbrev pub held_to : ℕ → ℤ → ℕ
held_to side (pos n) = min n side
held_to side (negsuc n) = 0

-- the columns of a source of this width that are read for a plan, and the place of each of the output's columns among
-- them
pub record AreColumns (p : Planned) (width : ℕ) (c : Columns) : Type 0 where
  pub inside : c.first + c.count ≤ width
  pub long : length c.places.items ≡ p.size.w
  pub each : (i : ℕ) → i < p.size.w → within width (shown_column p i) ≡ column_at c.first c.count
      (get_or c.places.items i 0)
