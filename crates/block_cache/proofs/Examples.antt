-- A pool of one and of two blocks, worked by hand.
use Rattle.std.proofs.Common.{◌≡◌, ℕ, pos, true, false, [], ◌∷◌, Some, None, refl}
use Rattle.geotransform.specs.declared.types.PixelType.TheVariants.{Byte}
use Rattle.band_blocks.specs.declared.key.BlockKey.{BlockKey}
use Rattle.band_blocks.specs.Blocks.{block_view}
use Rattle.block_cache.specs.declared.pool.Entry.{Entry}
use Rattle.block_cache.specs.Entries.{entry_of, held_at, moved_to_front, admitted, dropped, patched_block, last_dirty, left_by}

abbrev key : ℕ → BlockKey
key n = record { dataset = 0; band = 0; block = n }

abbrev first : Entry
first = entry_of (block_view Byte (pos 7 ∷ pos 8 ∷ pos 9 ∷ [])) true

abbrev second : Entry
second = entry_of (block_view Byte (pos 1 ∷ [])) false

into_a_full_pool : admitted 1 (key 2) second ((key 1, first) ∷ []) ≡ (key 2, second) ∷ []
into_a_full_pool = refl

the_last_is_dropped : dropped 1 (key 2) ((key 1, first) ∷ []) ≡ Some (key 1, first)
the_last_is_dropped = refl

a_held_key_drops_none : dropped 1 (key 1) ((key 1, first) ∷ []) ≡ None
a_held_key_drops_none = refl

found_last : moved_to_front (key 1) ((key 2, second) ∷ (key 1, first) ∷ []) ≡ (key 1, first) ∷ (key 2, second) ∷ []
found_last = refl

not_found : held_at (key 1) ((key 2, second) ∷ []) ≡ None
not_found = refl

patched_in_the_middle : patched_block 1 (pos 5 ∷ []) (block_view Byte (pos 7 ∷ pos 8 ∷ pos 9 ∷ [])) ≡ block_view Byte (pos 7 ∷ pos 5 ∷ pos 9 ∷ [])
patched_in_the_middle = refl

clean_behind_dirty : left_by (last_dirty ((key 3, second) ∷ (key 1, first) ∷ (key 2, second) ∷ [])) ≡ (key 3, second) ∷ []
clean_behind_dirty = refl
