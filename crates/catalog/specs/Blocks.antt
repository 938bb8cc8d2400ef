-- The blocks of a catalog's datasets.
use Rattle.std.specs.Prelude.{ℕ, ℤ, ◌*◌, List, [], slice_get, Option, Some, None}
use Rattle.std.specs.List.{sum_by}
use Rattle.outside.specs.Outside.{Files}
use Rattle.catalog.specs.Dataset.{band_count}
use Rattle.catalog.specs.Drivers.{Dataset}
use Rattle.catalog.specs.Pixels.{pixel_of}
use Rattle.catalog.specs.Places.{blocks_of, block_rect_of, row_by_row}

-- the pixels of a block of a dataset's band, row by row
abbrev pub block_by : Files → List Dataset → ℕ → ℕ → ℕ → Option Dataset → List ℤ
block_by m cat id band block None = []
block_by m cat id band block (Some d) = row_by_row (pixel_of m cat id band) (block_rect_of d.head block)

-- the pixels of a block of a band of the dataset of a number, row by row
abbrev pub block_pixels : Files → List Dataset → ℕ → ℕ → ℕ → List ℤ
block_pixels m cat id band block = block_by m cat id band block (slice_get cat id)

-- the blocks of all bands of all datasets
abbrev pub all_blocks : List Dataset → ℕ
all_blocks cat = sum_by (λ (d : Dataset). band_count d.head * blocks_of d.head) cat
