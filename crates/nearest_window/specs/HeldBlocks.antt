-- What is held in a lane, in its pool or beside it.
use Rattle.std.specs.Prelude.{Option, ◌≡◌, ◌⊎◌}
use Rattle.std.specs.Option.{option_or, IsSomeAnd}
use Rattle.band_blocks.specs.declared.key.BlockKey.{BlockKey}
use Rattle.block_cache.specs.declared.pool.Entry.{Entry}
use Rattle.block_cache.specs.Entries.{held_at, pool_view, moved_to_front, admitted}
use Rattle.nearest_window.specs.Lanes.{LaneView, lane_view}

-- the entry of the key, in the pool or else beside it
abbrev pub found_in : {File : Type 0} → BlockKey → LaneView File → Option Entry
found_in key lane = option_or (held_at key lane.pool.entries) (held_at key lane.made.entries)

-- the key's block is held, in the pool or beside it, and has a property
abbrev pub IsHeldWith : {File : Type 0} → BlockKey → LaneView File → (Entry → Type 0) → Type 0
IsHeldWith key lane P = IsSomeAnd (found_in key lane) P

-- the block of the key was used, in the pool or beside it, and has a property
abbrev pub IsUsed : {File : Type 0} → BlockKey → (Entry → Type 0) → LaneView File → LaneView File → Type 0
IsUsed key P old new =
    (IsSomeAnd (held_at key old.pool.entries) P ×
    (new ≡ lane_view (pool_view (moved_to_front key old.pool.entries) old.pool.capacity) old.files old.made
    old.indexes old.recalled))
    ⊎ (IsSomeAnd (held_at key old.made.entries) P ×
    (new ≡ lane_view old.pool old.files (pool_view (moved_to_front key old.made.entries) old.made.capacity)
    old.indexes old.recalled))

-- the entry of the key was kept, in the pool or beside it
abbrev pub IsKept : {File : Type 0} → BlockKey → Entry → LaneView File → LaneView File → Type 0
IsKept key entry old new =
    (new ≡ lane_view (pool_view (admitted old.pool.capacity key entry old.pool.entries) old.pool.capacity) old.files
    old.made old.indexes old.recalled)
    ⊎
    (new ≡ lane_view old.pool old.files (pool_view (admitted old.made.capacity key entry old.made.entries)
    old.made.capacity) old.indexes old.recalled)
