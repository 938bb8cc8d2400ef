-- Blocks that take the samples of a key's block.
use Rattle.std.specs.Prelude.{◌≡◌, ◌*◌, List, length, Some, slice_get}
use Rattle.catalog.specs.Drivers.{Dataset}
use Rattle.catalog.specs.Places.{block_rect_of}
use Rattle.band_blocks.specs.declared.key.BlockKey.{BlockKey}
use Rattle.band_blocks.specs.Blocks.{BlockView}
use Rattle.band_blocks.specs.Keys.{IsKeyOf}
use Rattle.catalog.specs.Dataset.{type_at}

-- the key is of a block of the catalog, and this block has that one's type and length, whatever its samples are
pub record HasShape (cat : List Dataset) (key : BlockKey) (block : BlockView) : Type 0 where
  pub dataset : Dataset
  pub in_range : IsKeyOf cat key dataset
  pub kind : type_at dataset.head key.band ≡ Some block.kind
  pub count : length block.samples ≡ (block_rect_of dataset.head key.block).w * (block_rect_of dataset.head key.block).h
