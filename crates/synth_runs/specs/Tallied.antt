-- Lines of a dataset while they are tallied.
use Rattle.std.specs.Prelude.{ℕ, ℤ, ◌≡◌, ◌<◌, ◌≤◌, ◌*◌, List, length, Option, Some, slice_get}
use Rattle.geotransform.specs.Geo.{IsRaster}
use Rattle.geotransform.specs.declared.types.Size.{Size}
use Rattle.outside.specs.Outside.{Files}
use Rattle.catalog.specs.Drivers.{Dataset}
use Rattle.catalog.specs.Pixels.{pixel_of_name}
use Rattle.catalog.specs.Places.{row_by_row}
use Rattle.strip_copies.specs.Copies.{lines_rect}
use Rattle.synthetic_rasters.specs.Tally.{Totals, tally_of}
use Rattle.catalog.specs.Dataset.{band_count}

-- a catalog has a dataset of this size, with a band, under this number
pub record IsCopied (cat : List Dataset) (id : ℕ) (size : Size) : Type 0 where
  pub dataset : Dataset
  pub at : slice_get cat id ≡ Some dataset
  pub sized : dataset.head.size ≡ size
  pub raster : IsRaster size
  pub banded : 0 < band_count dataset.head

-- lines of the first band of the dataset of a name, from one up to another
abbrev pub first_band_lines : Files → List ℕ → Size → ℕ → ℕ → List ℤ
first_band_lines m name size first end = row_by_row (pixel_of_name m name 0) (lines_rect size first end)

-- the first lines were tallied; over a folder that tells its files they are those of the dataset of this number
pub record AreTallied (told : Option Files) (cat : List Dataset) (id : ℕ) (size : Size) (end : ℕ) (t : Totals) : Type 0
  where
    pub few : t.count ≤ size.w * end
    pub tallied : (m : Files) (d : Dataset) → told ≡ Some m → slice_get cat id ≡ Some d →
        t ≡ tally_of (first_band_lines m d.head.name size 0 end)
