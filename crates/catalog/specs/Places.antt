-- Where the blocks of a dataset lie: line by line of blocks from the upper left, cut at the right and lower edges.
use Rattle.std.specs.Prelude.{ℕ, ◌+◌, ◌-◌, ◌*◌, ◌/◌, ◌%◌, ◌<◌, ◌≤◌, min, List, map}
use Rattle.std.specs.List.{range_with_len}
use Rattle.geotransform.specs.declared.types.Size.{Size}
use Rattle.geotransform.specs.declared.types.Rect.{Rect}
use Rattle.catalog.specs.Dataset.{DatasetHead, block_of}

-- how many steps reach over so many pixels
abbrev pub steps_over : ℕ → ℕ → ℕ
steps_over step pixels = (pixels + step - 1) / step

-- the blocks of a size in one line of blocks of a raster
abbrev pub across : Size → Size → ℕ
across block size = steps_over block.w size.w

-- all blocks of a size in a raster
abbrev pub count_in : Size → Size → ℕ
count_in block size = across block size * steps_over block.h size.h

-- the rectangle of a block
abbrev pub rect_in : Size → Size → ℕ → Rect
rect_in block size n = record {
  x = n % across block size * block.w;
  y = n / across block size * block.h;
  w = min block.w (size.w - n % across block size * block.w);
  h = min block.h (size.h - n / across block size * block.h);
}

-- the number of the block that a pixel lies in
abbrev pub number_in : Size → Size → ℕ → ℕ → ℕ
number_in block size x y = y / block.h * across block size + x / block.w

-- the rectangle has pixels, and all of them lie in the raster
pub record IsWithin (rect : Rect) (size : Size) : Type 0 where
  pub columns : 0 < rect.w
  pub lines : 0 < rect.h
  pub right : rect.x + rect.w ≤ size.w
  pub bottom : rect.y + rect.h ≤ size.h

-- the size of a dataset's blocks
abbrev pub block_size : DatasetHead → Size
block_size head = block_of head.kind head.size

-- the number of the blocks of a dataset's band
abbrev pub blocks_of : DatasetHead → ℕ
blocks_of head = count_in (block_size head) head.size

-- the rectangle of a block of a dataset's band
abbrev pub block_rect_of : DatasetHead → ℕ → Rect
block_rect_of head n = rect_in (block_size head) head.size n

-- the number of the block of a dataset's band that a pixel lies in
abbrev pub block_number_of : DatasetHead → ℕ → ℕ → ℕ
block_number_of head x y = number_in (block_size head) head.size x y

-- what f gives for the pixels of a rectangle, row by row
unfoldable pub row_by_row : {X : Type 0} → (ℕ → ℕ → X) → Rect → List X
row_by_row f rect = map (λ i. f (rect.x + i % rect.w) (rect.y + i / rect.w)) (range_with_len 0 (rect.w * rect.h))
