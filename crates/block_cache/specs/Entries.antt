-- What a contract sees of a pool: its entries, the most recently used first, and how many there may be.
use Rattle.std.specs.Prelude.{ℕ, ℤ, ◌-◌, ◌≤◌, ◌<◌, List, [], ◌∷◌, length, take, Bool, true, Option, Some, None}
use Rattle.std.specs.Prelude.{slice_get, cond, option_map, is_some}
use Rattle.std.specs.List.{IsDistinct}
use Rattle.std.specs.Map.{lookup, lookup_entry, remove_entry, keys_of, set_value}
use Rattle.std.specs.Option.{option_map_or, option_or}
use Rattle.band_blocks.specs.declared.key.BlockKey.{BlockKey}
use Rattle.band_blocks.specs.Blocks.{BlockView, block_view, written, most_blocks}
use Rattle.band_blocks.specs.Keys.{same_key}
use Rattle.block_cache.specs.declared.pool.Entry.{Entry}
use Rattle.block_cache.specs.declared.pool.Evicted.{Evicted}

pub record PoolView : Type 0 where
  pub entries : List (BlockKey × Entry)
  pub capacity : ℕ

abbrev pub pool_view : List (BlockKey × Entry) → ℕ → PoolView
pool_view entries capacity = record { entries = entries; capacity = capacity }

abbrev pub entry_of : BlockView → Bool → Entry
entry_of block dirty = record { block = block; dirty = dirty }

-- what holds of every pool: no key twice, and no more entries than its capacity, which is from 1 to 65,536
pub record IsPool (pool : PoolView) : Type 0 where
  pub distinct : IsDistinct same_key (keys_of pool.entries)
  pub within : length pool.entries ≤ pool.capacity
  pub some : 0 < pool.capacity
  pub few : pool.capacity ≤ most_blocks

-- the entry of the key, if it is held
abbrev pub held_at : BlockKey → List (BlockKey × Entry) → Option Entry
held_at key entries = lookup (same_key key) entries

-- the entry of the key, if it is held, goes to the front
abbrev pub moved_to_front : BlockKey → List (BlockKey × Entry) → List (BlockKey × Entry)
moved_to_front key entries =
    option_map_or (λ e. e ∷ remove_entry (same_key key) entries) (lookup_entry (same_key key) entries) entries

-- a held key gets the entry and goes to the front; a new key goes to the front, and into a full pool it drops the last
-- entry
abbrev pub admitted : ℕ → BlockKey → Entry → List (BlockKey × Entry) → List (BlockKey × Entry)
admitted capacity key entry entries = option_map_or (λ e. (e.0, entry) ∷ remove_entry (same_key key) entries)
    (lookup_entry (same_key key) entries) ((key, entry) ∷ take (capacity - 1) entries)

-- the entry that a key drops: none where the key is held, else the last of a full pool
abbrev pub dropped : ℕ → BlockKey → List (BlockKey × Entry) → Option (BlockKey × Entry)
dropped capacity key entries = cond (is_some (held_at key entries)) None (slice_get entries (capacity - 1))

-- what was dropped, as an entry of its key
abbrev pub entry_dropped : Evicted → BlockKey × Entry
entry_dropped e = (e.key, entry_of e.block e.dirty)

-- the samples are written into the block from a place on
abbrev pub patched_block : ℕ → List ℤ → BlockView → BlockView
patched_block at samples block = block_view block.kind (written at samples block.samples)

-- the key's entry gets the block, is dirty, and goes to the front
abbrev pub patched : BlockKey → BlockView → List (BlockKey × Entry) → List (BlockKey × Entry)
patched key block entries = set_value (same_key key) (moved_to_front key entries) (entry_of block true)

-- a dirty entry that is taken out, and the entries before it
pub record Taken : Type 0 where
  pub before : List (BlockKey × Entry)
  pub key : BlockKey
  pub block : BlockView

-- the last dirty entry
abbrev pub last_dirty : List (BlockKey × Entry) → Option Taken
last_dirty [] = None
last_dirty (e ∷ es) = option_or (option_map (λ t. record {
  before = e ∷ t.before;
  key = t.key;
  block = t.block;
}) (last_dirty es)) (cond e.1.dirty (Some (record {
  before = [];
  key = e.0;
  block = e.1.block;
})) None)

-- what stays once it was taken out, with the clean entries behind it: nothing where no entry is dirty
abbrev pub left_by : Option Taken → List (BlockKey × Entry)
left_by taken = option_map_or (λ t. t.before) taken []
