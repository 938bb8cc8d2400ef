-- What is translated, and lines of its output.
use Rattle.std.specs.Prelude.{◌≡◌, ◌<◌, ◌≤◌, ◌-◌, ℕ, ℤ, List, length, All, Some, slice_get, true}
use Rattle.geotransform.specs.declared.types.Rect.{Rect}
use Rattle.geotransform.specs.declared.types.Size.{Size}
use Rattle.geotransform.specs.Types.{is_in}
use Rattle.dted_records.specs.Written.{IsElevation}
use Rattle.catalog.specs.Dataset.{band_count}
use Rattle.catalog.specs.Drivers.{Dataset}
use Rattle.translate_plan.specs.declared.band.OutBand.{OutBand}
use Rattle.translate_plan.specs.Plan.{Planned}
use Rattle.translate_plan.specs.declared.options.Driver.TheVariants.{Dted}
use Rattle.strip_copies.specs.declared.columns.Columns.{Columns}
use Rattle.strip_copies.specs.Columns.{AreColumns}

-- the catalog has the dataset of this number, which has the bands that the plan shows
pub record IsTranslation (cat : List Dataset) (id : ℕ) (p : Planned) : Type 0 where
  pub dataset : Dataset
  pub at : slice_get cat id ≡ Some dataset
  pub sources : All (λ (b : OutBand). b.source < band_count dataset.head) p.bands

-- the columns are those of the dataset that the plan shows, and there is room for a line of them
pub record IsRoomFor (cat : List Dataset) (id : ℕ) (p : Planned) (columns : Columns) (samples : List ℤ) : Type 0 where
  pub dataset : Dataset
  pub at : slice_get cat id ≡ Some dataset
  pub shown : AreColumns p dataset.head.size.w columns
  pub room : columns.count ≤ length samples

-- the lines of an output from one up to another
abbrev pub lines_rect : Size → ℕ → ℕ → Rect
lines_rect size from to = record { x = 0; y = from; w = size.w; h = to - from }

-- a band of the output can hold a sample: it is of the band's type, and in a cell an elevation
pub record IsHeldIn (p : Planned) (k : ℕ) (v : ℤ) : Type 0 where
  pub kind : (b : OutBand) → slice_get p.bands k ≡ Some b → is_in b.kind v ≡ true
  pub elevation : (level : ℕ) → p.driver ≡ Dted level → IsElevation v
