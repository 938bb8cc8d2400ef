use Rattle.std.proofs.Common.{◌≡◌, Some, ap, sym}
use Rattle.block_cache.specs.Entries.{held_at, patched, pool_view}
use Rattle.block_cache.proofs.Kept.{patched_keeps}
use Rattle.block_cache.proofs.pool.Pool.patch.Goals as goal

pub write_run-requires-clause-within : goal.write_run-requires-clause-within
write_run-requires-clause-within c =
    let e : held_at c.args.key.now c.args.self.now.entries ≡ Some c.in-Some.entry.now = rw (← c.self.view_is) (sym c.in-Some.ensures.value) in
    rw e at c.requires.within

pub write_run-requires-clause-range : goal.write_run-requires-clause-range
write_run-requires-clause-range c =
    let e : held_at c.args.key.now c.args.self.now.entries ≡ Some c.in-Some.entry.now = rw (← c.self.view_is) (sym c.in-Some.ensures.value) in
    rw e at c.requires.range

pub invariant_of-self : goal.invariant_of-self
invariant_of-self c = patched_keeps c.args.key.now c.write_run.new.self c.self.inside.cache.entries c.self.inside.cache.cap c.self.invariant

pub returns-in-Some-clause-valid : goal.returns-in-Some-clause-valid
returns-in-Some-clause-valid c = patched_keeps c.args.key.now c.write_run.new.self c.self.inside.cache.entries c.self.inside.cache.cap c.self.invariant

pub returns-in-Some-clause-patched : goal.returns-in-Some-clause-patched
returns-in-Some-clause-patched c =
    let e : held_at c.args.key.now c.args.self.now.entries ≡ Some c.in-Some.entry.now = rw (← c.self.view_is) (sym c.in-Some.ensures.value) in
    rw (e, ← c.self.view_is) (ap (λ b. pool_view (patched c.args.key.now b c.self.inside.cache.entries) c.self.inside.cache.cap) c.write_run.ensures.samples)
