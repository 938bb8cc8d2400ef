use Rattle.block_cache.proofs.Kept.{moved_keeps}
use Rattle.block_cache.proofs.pool.Pool.find.Goals as goal

pub invariant_of-self : goal.invariant_of-self
invariant_of-self c = rw c.get.follows.holds-at-none (moved_keeps c.args.key.now c.self.inside.cache.entries c.self.inside.cache.cap c.self.invariant)
