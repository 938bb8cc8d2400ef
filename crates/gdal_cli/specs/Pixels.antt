-- Pixels and bands of a dataset of a catalog, by its number.
use Rattle.std.specs.Prelude.{◌≡◌, ◌<◌, ◌≤◌, ◌-◌, ℕ, ℤ, pos, List, All, length, get_or, slice_get, Some}
use Rattle.catalog.specs.Dataset.{band_count}
use Rattle.catalog.specs.Drivers.{Dataset}
use Rattle.nearest_window.specs.Windows.{IsInBand}

-- the column and the line are in the raster
pub record IsOnRaster (cat : List Dataset) (id x y : ℕ) : Type 0 where
  pub dataset : Dataset
  pub at : slice_get cat id ≡ Some dataset
  pub column : x < dataset.head.size.w
  pub line : y < dataset.head.size.h

-- something holds of the number of its bands
pub record AreBands (cat : List Dataset) (id : ℕ) (Holds : ℕ → Type 0) : Type 0 where
  pub dataset : Dataset
  pub at : slice_get cat id ≡ Some dataset
  pub holds : Holds (band_count dataset.head)

-- it has these bands, counted from 1
abbrev pub HasBands : List Dataset → ℕ → List ℕ → Type 0
HasBands cat id bands = AreBands cat id (λ count. All (λ band. (1 ≤ band) × (band ≤ count)) bands)

-- one value for each of these bands, counted from 1, and of the band's type
pub record AreOfBands (cat : List Dataset) (id : ℕ) (bands : List ℕ) (values : List ℤ) : Type 0 where
  pub count : length values ≡ length bands
  pub typed : (k : ℕ) → k < length bands → IsInBand cat id (get_or bands k 0 - 1) (get_or values k (pos 0))
