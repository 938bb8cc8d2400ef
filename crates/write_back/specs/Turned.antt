-- Columns that are made from samples that stand line by line.
use Rattle.std.specs.Prelude.{◌≡◌, ◌<◌, ◌≤◌, ◌+◌, ◌*◌, ℕ, ℤ, pos, List, get_or}
use Rattle.geotransform.specs.declared.types.Rect.{Rect}
use Rattle.write_back.specs.declared.turned.Span.{Span}

-- so many columns of lines of `width` samples, from the column `first` on, stand one behind the other
abbrev pub AreTurned : List ℤ → ℕ → ℕ → ℕ → ℕ → List ℤ → Type 0
AreTurned samples width first columns lines out = (c l : ℕ) → c < columns → l < lines →
    get_or out (c * lines + l) (pos 0) ≡ get_or samples (l * width + (first + c)) (pos 0)

-- a group holds these columns of a rectangle's samples, which are at most as many as it has room for
pub record IsGroup (samples : List ℤ) (rect : Rect) (most : ℕ) (span : Span) (group : List ℤ) : Type 0 where
  pub few : span.count ≤ most
  pub within : span.first + span.count ≤ rect.w
  pub turned : AreTurned samples rect.w span.first span.count rect.h group
