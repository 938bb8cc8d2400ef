-- The sources that are asked for a rectangle, by their numbers.
use Rattle.std.specs.Prelude.{ℕ, ◌+◌, ◌<◌, ◌≤◌, List, length, slice_index, nat_lt, if◌then◌else◌}
use Rattle.std.specs.List as list
use Rattle.std.specs.List.{Contains, range_with_len}
use Rattle.std.specs.List.Sorted.{IsStrictlyIncreasing}
use Rattle.geotransform.specs.declared.types.Rect.{Rect}
use Rattle.geotransform.specs.declared.types.Size.{Size}
use Rattle.vrt_profile.specs.Values.{SourceValue}
use Rattle.mosaic_sources.specs.Rows.{Rows, covering_lines, list_at}
use Rattle.nearest_window.specs.declared.wanted.Wanted.{Wanted}
use Rattle.nearest_window.specs.declared.wanted.Wanted.TheVariants.{All, Listed}

-- the numbers, in order
abbrev pub numbers_of : Wanted → List ℕ
numbers_of (All count) = range_with_len 0 count
numbers_of (Listed numbers) = numbers.items

-- a line of a rectangle
pub record IsLineOf (rect : Rect) (y : ℕ) : Type 0 where
  pub top : rect.y ≤ y
  pub bottom : y < rect.y + rect.h

-- a number in the list of a line of a rectangle
pub record IsListedIn (r : Rows) (rect : Rect) (number : ℕ) : Type 0 where
  pub line : ℕ
  pub within : IsLineOf rect line
  pub listed : Contains (list_at r line) number

-- These are numbers of sources, in ascending order, and each source that covers a line of the rectangle is among them.
pub record IsWanted (sources : List SourceValue) (size : Size) (rect : Rect) (numbers : List ℕ) : Type 0 where
  pub rising : IsStrictlyIncreasing numbers
  pub below : list.All (λ number. number < length sources) numbers
  pub listed : (y : ℕ) → IsLineOf rect y → (number : ℕ) → Contains (covering_lines sources size y) number →
      Contains numbers number

-- the number at a place; behind the last, the number of sources
abbrev pub bound : List ℕ → ℕ → List SourceValue → ℕ
bound numbers k sources = if nat_lt k (length numbers) then slice_index numbers k else length sources
