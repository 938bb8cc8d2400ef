-- Windows that are written one after another.
use Rattle.std.specs.Prelude.{◌≡◌, ◌+◌, ◌-◌, ◌*◌, ◌<◌, ◌≤◌, ℕ, ℤ, pos, Bool, List, [], ◌∷◌, get_or, nat_eq, nat_lt}
use Rattle.std.specs.Prelude.{◌&&◌, not, if◌then◌else◌}
use Rattle.geotransform.specs.declared.types.Rect.{Rect}
use Rattle.write_back.specs.Overlay.{IsOverlaid}
use Rattle.write_back.specs.View.{Output, IsIn}

-- a window: its band, its rectangle, and its samples row by row
pub record Window : Type 0 where
  pub band : ℕ
  pub rect : Rect
  pub samples : List ℤ

-- a column or a line lies in a stretch
abbrev pub lies_in : ℕ → ℕ → ℕ → Bool
lies_in x from n = not (nat_lt x from) && nat_lt x (from + n)

-- a window covers a pixel of a band
abbrev pub covers : Window → ℕ → ℕ → ℕ → Bool
covers w k x y = nat_eq k w.band && (lies_in x w.rect.x w.rect.w && lies_in y w.rect.y w.rect.h)

-- the sample of the last window that covers a pixel, else 0; the windows stand the last of them first
unfoldable pub sample_of_last : List Window → ℕ → ℕ → ℕ → ℤ
sample_of_last [] k x y = pos 0
sample_of_last (w ∷ earlier) k x y = if covers w k x y
    then get_or w.samples ((y - w.rect.y) * w.rect.w + (x - w.rect.x)) (pos 0) else sample_of_last earlier k x y

-- a raster after these windows were written over zeros, one after another, the last of which stands first
unfoldable pub AreWritten : Output → List Window → (ℕ → ℕ → ℕ → ℤ) → Type 0
AreWritten o [] raster = (k x y : ℕ) → IsIn o k x y → raster k x y ≡ pos 0
AreWritten o (w ∷ earlier) raster = (before : ℕ → ℕ → ℕ → ℤ) × AreWritten o earlier before ×
    IsOverlaid (IsIn o) w.band w.rect w.samples before raster
