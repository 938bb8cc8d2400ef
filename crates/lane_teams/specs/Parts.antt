-- How a window is cut among lanes, and what its samples are.
use Rattle.std.specs.Prelude.{◌≡◌, ℕ, ℤ, ◌+◌, ◌-◌, ◌*◌, ◌/◌, ◌||◌, nat_lt, if◌then◌else◌, List, All, Option, Some}
use Rattle.std.specs.Prelude.{slice_get}
use Rattle.geotransform.specs.declared.types.Rect.{Rect}
use Rattle.outside.specs.Outside.{Files}
use Rattle.catalog.specs.Drivers.{Dataset}
use Rattle.catalog.specs.Pixels.{pixel_of, pixel_of_name}
use Rattle.catalog.specs.Places.{row_by_row}
use Rattle.nearest_window.specs.declared.window.Window.{Window}
use Rattle.nearest_window.specs.Windows.{IsInBand}

-- How many of n lanes read a window of so many lines and samples: the first alone where there are fewer lines than
-- lanes, or where less than `fewest` samples come to each.
abbrev pub readers_of : ℕ → ℕ → ℕ → ℕ → ℕ
readers_of lines samples fewest n = if nat_lt lines n || nat_lt (samples / n) fewest then 1 else n

-- the lines of so many that lie before those of the lane k of n
abbrev pub lines_before : ℕ → ℕ → ℕ → ℕ
lines_before lines n k = k * lines / n

-- the lines of a rectangle that the lanes from a up to b, of n, read
abbrev pub lane_lines : Rect → ℕ → ℕ → ℕ → Rect
lane_lines rect n a b = record {
  x = rect.x;
  y = rect.y + lines_before rect.h n a;
  w = rect.w;
  h = lines_before rect.h n b - lines_before rect.h n
      a;
}

-- the part of a window that these lanes read
abbrev pub part_of : Window → ℕ → ℕ → ℕ → Window
part_of window n a b = record { dataset = window.dataset; band = window.band; rect = lane_lines window.rect n a b }

-- the samples are the pixels of a window, row by row, as far as the folder tells its files, and each is in the band's
-- type
pub record AreOfWindow (told : Option Files) (cat : List Dataset) (window : Window) (samples : List ℤ) : Type 0 where
  pub pixels : (m : Files) → told ≡ Some m →
      samples ≡ row_by_row (pixel_of m cat window.dataset window.band) window.rect
  pub named : (m : Files) (d : Dataset) → told ≡ Some m → slice_get cat window.dataset ≡ Some d →
      samples ≡ row_by_row (pixel_of_name m d.head.name window.band) window.rect
  pub typed : All (IsInBand cat window.dataset window.band) samples
