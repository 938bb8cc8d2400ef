use Rattle.std.proofs.Common.{◌≡◌, length}
use Rattle.block_cache.specs.Entries.{IsPool, pool_view}
use Rattle.block_cache.proofs.Dirty.{KeepsClean}
use Rattle.block_cache.proofs.pool.Pool.take_dirty.Given as goal

abbrev pub invariant-loop-key : goal.invariant-loop-key
invariant-loop-key l = (l.self-inside.cache.cap ≡ l.fn.self.capacity) × KeepsClean l.fn.self.entries l.self-inside.cache.entries × IsPool (pool_view l.self-inside.cache.entries l.self-inside.cache.cap)

abbrev pub decreases-loop-key : goal.decreases-loop-key
decreases-loop-key l = length l.self-inside.cache.entries
