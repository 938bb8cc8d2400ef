-- Which keys are of blocks of files and which of mosaics, a block of a part of a band, and its first pixel.
use Rattle.std.specs.Prelude.{◌≡◌, List, None, Some, slice_get, Option}
use Rattle.geotransform.specs.declared.types.Rect.{Rect}
use Rattle.outside.specs.Outside.{Files}
use Rattle.vrt_profile.specs.Values.{BandValue, DocumentValue}
use Rattle.catalog.specs.Drivers.{Dataset, document_of}
use Rattle.catalog.specs.Pixels.{pixel_of}
use Rattle.catalog.specs.Places.{row_by_row}
use Rattle.band_blocks.specs.declared.key.BlockKey.{BlockKey}
use Rattle.band_blocks.specs.Keys.{IsKeyOf}
use Rattle.band_blocks.specs.Blocks.{BlockView}
use Rattle.band_blocks.specs.Contents.{IsOfBand}
use Rattle.band_blocks.specs.declared.key.PixelKey.{PixelKey}

-- the key is of a block of a file
pub record IsFileKey (cat : List Dataset) (key : BlockKey) : Type 0 where
  pub dataset : Dataset
  pub in_range : IsKeyOf cat key dataset
  pub file : document_of dataset.content ≡ None

-- the key is of a block of this band of a mosaic
pub record IsMosaicKey (cat : List Dataset) (key : BlockKey) (band : BandValue) : Type 0 where
  pub dataset : Dataset
  pub in_range : IsKeyOf cat key dataset
  pub document : DocumentValue
  pub content : document_of dataset.content ≡ Some document
  pub band_at : slice_get document.bands key.band ≡ Some band

-- the block is that of a rectangle of its key's band: it has a sample of the band's type for each pixel, and over a
-- folder that tells its files they are the rectangle's pixels
pub record IsPartBlock (told : Option Files) (cat : List Dataset) (key : BlockKey) (rect : Rect) (block : BlockView)
    : Type 0 where
  pub dataset : Dataset
  pub in_range : IsKeyOf cat key dataset
  pub shape : IsOfBand dataset key.band rect block
  pub content : (m : Files) → told ≡ Some m → block.samples ≡ row_by_row (pixel_of m cat key.dataset key.band) rect

-- the first pixel of a rectangle of the band that a block is of
abbrev pub first_pixel_of : BlockKey → Rect → PixelKey
first_pixel_of key rect = record { dataset = key.dataset; band = key.band; x = rect.x; y = rect.y }
