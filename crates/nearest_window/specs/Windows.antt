-- Windows of pixels, and the types of their samples.
use Rattle.std.specs.Prelude.{◌≡◌, ◌+◌, ◌<◌, ◌≤◌, List, Some, slice_get, ℕ, ℤ, true}
use Rattle.geotransform.specs.Types.{is_in}
use Rattle.geotransform.specs.declared.types.PixelType.{PixelType}
use Rattle.catalog.specs.Dataset.{band_count, type_at}
use Rattle.catalog.specs.Drivers.{Dataset}
use Rattle.nearest_window.specs.declared.window.Window.{Window}

-- the window's rectangle lies in a band of its dataset
pub record IsWindow (cat : List Dataset) (window : Window) : Type 0 where
  pub dataset : Dataset
  pub at : slice_get cat window.dataset ≡ Some dataset
  pub has_band : window.band < band_count dataset.head
  pub across : window.rect.x + window.rect.w ≤ dataset.head.size.w
  pub down : window.rect.y + window.rect.h ≤ dataset.head.size.h

-- the sample is in the type of a band of a dataset
abbrev pub IsInBand : List Dataset → ℕ → ℕ → ℤ → Type 0
IsInBand cat id band sample = (d : Dataset) (kind : PixelType) → slice_get cat id ≡ Some d →
    type_at d.head band ≡ Some kind → is_in kind sample ≡ true
