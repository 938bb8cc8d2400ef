-- Parts of an output: lines of a band.
use Rattle.std.specs.Prelude.{ℕ, ℤ, ◌≡◌, ◌<◌, ◌≤◌, ◌+◌, ◌-◌, ◌*◌, List, length, take, Option, Some, slice_get}
use Rattle.std.specs.List.{All}
use Rattle.geotransform.specs.declared.types.Rect.{Rect}
use Rattle.outside.specs.Outside.{Files}
use Rattle.catalog.specs.Drivers.{Dataset}
use Rattle.catalog.specs.Places.{row_by_row}
use Rattle.translate_plan.specs.Plan.{Planned}
use Rattle.strip_copies.specs.declared.reading.Lines.{Lines}
use Rattle.strip_copies.specs.Copies.{lines_rect, IsHeldIn}
use Rattle.output_copies.specs.Steps.{raster_of}

-- Samples of lines of a band that were read, row by row: the output can hold each, and over a folder that tells its
-- files they are those of the plan's raster.
pub record AreRead (told : Option Files) (cat : List Dataset) (id : ℕ) (p : Planned) (lines : Lines) (samples : List ℤ)
    : Type 0 where
  pub long : length samples ≡ p.size.w * (lines.end - lines.first)
  pub held : All (IsHeldIn p lines.band) samples
  pub pixels : (m : Files) (d : Dataset) → told ≡ Some m → slice_get cat id ≡ Some d →
      samples ≡ row_by_row (raster_of m d p lines.band) (lines_rect p.size lines.first lines.end)

-- The same of a rectangle of a band.
pub record AreReadIn (told : Option Files) (cat : List Dataset) (id : ℕ) (p : Planned) (band : ℕ) (rect : Rect)
    (samples : List ℤ) : Type 0 where
  pub long : length samples ≡ rect.w * rect.h
  pub held : All (IsHeldIn p band) samples
  pub pixels : (m : Files) (d : Dataset) → told ≡ Some m → slice_get cat id ≡ Some d →
      samples ≡ row_by_row (raster_of m d p band) rect

-- a room begins with the samples of a rectangle of a band that were read
abbrev pub BeginsWithIn : Option Files → List Dataset → ℕ → Planned → ℕ → Rect → List ℤ → Type 0
BeginsWithIn told cat id p band rect room = AreReadIn told cat id p band rect (take (rect.w * rect.h) room)

-- lines of a band of a plan
pub record ArePart (p : Planned) (lines : Lines) : Type 0 where
  pub band : lines.band < length p.bands
  pub order : lines.first < lines.end
  pub end : lines.end ≤ p.size.h

-- a room begins with the samples of lines that were read
abbrev pub BeginsWith : Option Files → List Dataset → ℕ → Planned → Lines → List ℤ → Type 0
BeginsWith told cat id p lines room = AreRead told cat id p lines (take (p.size.w * (lines.end - lines.first)) room)

-- The lines behind those of a band: the same lines of the next band, or behind the last band those below, of the first.
pub record AreBehind (p : Planned) (last next : Lines) : Type 0 where
  pub beside : 0 < next.band → (next.band ≡ last.band + 1) × (next.first ≡ last.first) × (next.end ≡ last.end)
  pub below : next.band ≡ 0 → (last.band + 1 ≡ length p.bands) × (next.first ≡ last.end)
