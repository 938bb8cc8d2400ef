-- What a pool ends as, once a reference into it has ended.
use Rattle.std.specs.Prelude.{◌≡◌, List, ⊤}
use Rattle.std.specs.Borrow.{Fml, MutBor, follows_so}
use mathlib.Core.Option.{none}
use Rattle.band_blocks.specs.declared.key.BlockKey.{BlockKey}
use Rattle.block_cache.specs.declared.pool.Entry.{Entry}
use Rattle.block_cache.specs.Entries.{PoolView, pool_view}
use Rattle.block_cache.specs.contracts.pool.Pool.{the_row}

-- it has these entries, and the capacity that it had
abbrev pub ends_as : MutBor PoolView → List (BlockKey × Entry) → Fml
ends_as pool entries =
    follows_so the_row the_row pool.ghost_name none (λ _ _. ⊤) (λ n. n ≡ pool_view entries pool.now.capacity)
