-- What a pool is once samples were put into a held block at places that stand apart.
use Rattle.std.specs.Prelude.{◌≡◌, ℕ, ℤ, List, length}
use Rattle.band_blocks.specs.declared.key.BlockKey.{BlockKey}
use Rattle.band_blocks.specs.Blocks.{BlockView}
use Rattle.band_blocks.specs.Spread.{IsSpread}
use Rattle.block_cache.specs.declared.pool.Entry.{Entry}
use Rattle.block_cache.specs.Entries.{PoolView, pool_view, patched}

-- the block of an entry has samples at places that stand so far apart, and elsewhere those that it had; the entry is
-- dirty, and at the front
pub record IsSpreadInto (key : BlockKey) (at stride : ℕ) (samples : List ℤ) (e : Entry) (old new : PoolView) : Type 0
  where
    pub block : BlockView
    pub kind : block.kind ≡ e.block.kind
    pub spread : IsSpread samples 0 (length samples) at stride e.block.samples block.samples
    pub is : new ≡ pool_view (patched key block old.entries) old.capacity
