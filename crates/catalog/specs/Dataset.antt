-- What is known of a dataset before its pixels are read.
use Rattle.std.specs.Prelude.{ℕ, ◌≡◌, ◌<◌, ◌≤◌, List, length, slice_get, All, Option, option_map, IfSome, true}
use Rattle.geotransform.specs.Geo.{Transform, IsRaster}
use Rattle.geotransform.specs.Types.{is_in}
use Rattle.geotransform.specs.declared.types.PixelType.{PixelType}
use Rattle.geotransform.specs.declared.types.Size.{Size}
use Rattle.catalog.specs.declared.kind.BandHead.{BandHead}
use Rattle.catalog.specs.declared.kind.Kind.{Kind}
use Rattle.catalog.specs.declared.kind.Kind.TheVariants as kinds
use Rattle.geotransform.specs.Limits.{most_bands}

-- The most datasets of a catalog, and so the most inputs of a mosaic.
abbrev pub most_datasets : ℕ
most_datasets = 65536

-- The most mosaics on a path, on which a source of each names the next.
abbrev pub most_nestings : ℕ
most_nestings = 16

-- The side of a square of a mosaic, in pixels.
abbrev pub square_side : ℕ
square_side = 128

-- a dataset: its name and kind, its raster, its bands in order, and the names of its own files
pub record DatasetHead : Type 0 where
  pub name : List ℕ
  pub kind : Kind
  pub size : Size
  pub geo : Option Transform
  pub srs : Option (List ℕ)
  pub bands : List BandHead
  pub files : List (List ℕ)

-- how many bands a dataset has
abbrev pub band_count : DatasetHead → ℕ
band_count head = length head.bands

-- a band of a dataset by its number, counted from 0
abbrev pub band_at : DatasetHead → ℕ → Option BandHead
band_at head band = slice_get head.bands band

-- the type of its samples
abbrev pub type_at : DatasetHead → ℕ → Option PixelType
type_at head band = option_map (λ b. b.kind) (band_at head band)

-- the size of the blocks of a kind: a line of pixels, a column of a cell, or a square of a mosaic
abbrev pub block_of : Kind → Size → Size
block_of kinds.Raw size = record { w = size.w; h = 1 }
block_of kinds.Dted size = record { w = 1; h = size.h }
block_of kinds.Hgt size = record { w = size.w; h = 1 }
block_of kinds.Ascii size = record { w = size.w; h = 1 }
block_of kinds.Vrt size = record { w = square_side; h = square_side }

-- a band has the blocks of its dataset, and a NODATA of its own type
pub record IsBandHead (kind : Kind) (size : Size) (band : BandHead) : Type 0 where
  pub block : band.block ≡ block_of kind size
  pub nodata : IfSome band.nodata (λ n. is_in band.kind n ≡ true)

-- the limits of a dataset, and what each of its bands keeps
pub record IsDatasetHead (head : DatasetHead) : Type 0 where
  pub size : IsRaster head.size
  pub some_band : 0 < band_count head
  pub bands : band_count head ≤ most_bands
  pub each : All (IsBandHead head.kind head.size) head.bands
