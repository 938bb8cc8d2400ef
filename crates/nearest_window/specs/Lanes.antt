-- What a contract sees of a lane: its pool, its open files by the numbers of their datasets, the blocks of mosaics that
-- were made while the pool was full, the indexes of bands' sources by lines, and the samples of pixels of mosaics that
-- were made by themselves.
use Rattle.std.specs.Prelude.{ℕ, ℤ, List, length}
use Rattle.band_blocks.specs.declared.key.PixelKey.{PixelKey}
use Rattle.block_cache.specs.Entries.{PoolView}
use Rattle.nearest_window.specs.declared.indexes.Kept.{Kept}

-- The most blocks of mosaics that are kept beside a full pool.
abbrev pub most_made : ℕ
most_made = 4096

pub record LaneView (File : Type 0) : Type 0 where
  pub pool : PoolView
  pub files : List (ℕ × File)
  pub made : PoolView
  pub indexes : List Kept
  pub recalled : List (PixelKey × ℤ)

abbrev pub lane_view : {File : Type 0} → PoolView → List (ℕ × File) → PoolView → List Kept → List (PixelKey × ℤ) →
    LaneView File
lane_view pool files made indexes recalled = record {
  pool = pool;
  files = files;
  made = made;
  indexes = indexes;
  recalled = recalled;
}

-- how many blocks are held
abbrev pub held_count : {File : Type 0} → LaneView File → ℕ
held_count lane = length lane.pool.entries

-- how many blocks there is room for
abbrev pub room_of : {File : Type 0} → LaneView File → ℕ
room_of lane = lane.pool.capacity
