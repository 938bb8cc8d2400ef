use Rattle.std.proofs.Common.{◌≡◌, Some, refl, sym}
use Rattle.block_cache.specs.Entries.{held_at}
use Rattle.block_cache.proofs.Kept.{patched_keeps}
use Rattle.block_cache.proofs.pool.Pool.patch_spread.Goals as goal

pub write_spread-requires-clause-room : goal.write_spread-requires-clause-room
write_spread-requires-clause-room c =
    let e : held_at c.args.key.now c.args.self.now.entries ≡ Some c.in-Some.entry.now = rw (← c.self.view_is) (sym c.in-Some.ensures.value) in
    rw e at c.requires.within

pub write_spread-requires-clause-range : goal.write_spread-requires-clause-range
write_spread-requires-clause-range c =
    let e : held_at c.args.key.now c.args.self.now.entries ≡ Some c.in-Some.entry.now = rw (← c.self.view_is) (sym c.in-Some.ensures.value) in
    rw e at c.requires.range

pub invariant_of-self-2 : goal.invariant_of-self-2
invariant_of-self-2 c = patched_keeps c.args.key.now c.write_spread.new.self c.self.inside.cache.entries c.self.inside.cache.cap c.self.invariant

pub returns-clause-patched : goal.returns-clause-patched
returns-clause-patched c =
    let e : held_at c.args.key.now c.args.self.now.entries ≡ Some c.in-Some.entry.now = rw (← c.self.view_is) (sym c.in-Some.ensures.value) in
    rw (e, ← c.self.view_is) (record { block = c.write_spread.new.self; kind = c.write_spread.ensures.kind; spread = c.write_spread.ensures.spread; is = refl })

pub returns-clause-valid : goal.returns-clause-valid
returns-clause-valid c = patched_keeps c.args.key.now c.write_spread.new.self c.self.inside.cache.entries c.self.inside.cache.cap c.self.invariant
