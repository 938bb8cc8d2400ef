use Rattle.std.proofs.Common.{None, refl, sym, ap, ◌∙◌, length, ◌-◌, take}
use Rattle.std.specs.Prelude.{option_map}
use Rattle.block_cache.specs.Entries.{Taken}
use Rattle.block_cache.proofs.Dirty.{keeps_more, keeps_taken, keeps_none, left_is}
use Rattle.block_cache.proofs.Kept.{taken_keeps}
use Rattle.block_cache.proofs.pool.Pool.take_dirty.Goals as goal

pub loop-key-preserved : goal.loop-key-preserved
loop-key-preserved c = rw c.pop_lru.ensures.entries (c.loop-key.invariant.0, keeps_more _ _ (c.in-Some.key, c.in-Some.entry) (sym c.pop_lru.ensures.value ∙ c.in-Some.is) c.if-dirty.false c.loop-key.invariant.1, taken_keeps _ _ _ c.loop-key.invariant.2)

pub invariant_of-self : goal.invariant_of-self
invariant_of-self c = rw c.pop_lru.ensures.entries (taken_keeps _ _ _ c.loop-key.invariant.2)

pub returns-then-dirty-clause-valid : goal.returns-then-dirty-clause-valid
returns-then-dirty-clause-valid c = rw c.pop_lru.ensures.entries (taken_keeps _ _ _ c.loop-key.invariant.2)

pub invariant_of-self-in_default : goal.invariant_of-self-in_default
invariant_of-self-in_default c = rw c.pop_lru.ensures.entries (taken_keeps _ _ _ c.loop-key.invariant.2)

pub returns-clause-valid : goal.returns-clause-valid
returns-clause-valid c = rw c.pop_lru.ensures.entries (taken_keeps _ _ _ c.loop-key.invariant.2)

pub returns-then-dirty-clause-taken : goal.returns-then-dirty-clause-taken
returns-then-dirty-clause-taken c = sym (ap (option_map (λ (t : Taken). (t.key, t.block))) (keeps_taken c.args.self.now.entries c.loop-key.self-inside.cache.entries (c.in-Some.key, c.in-Some.entry) (sym c.pop_lru.ensures.value ∙ c.in-Some.is) c.if-dirty.true c.loop-key.invariant.1))

pub returns-then-dirty-clause-left : goal.returns-then-dirty-clause-left
returns-then-dirty-clause-left c =
    let taken = keeps_taken c.args.self.now.entries c.loop-key.self-inside.cache.entries (c.in-Some.key, c.in-Some.entry) (sym c.pop_lru.ensures.value ∙ c.in-Some.is) c.if-dirty.true c.loop-key.invariant.1 in
    rw c.pop_lru.ensures.entries (left_is (take (length c.loop-key.self-inside.cache.entries - 1) c.loop-key.self-inside.cache.entries) c.args.self.now.entries c.loop-key.self-inside.cache.cap c.args.self.now.capacity _ taken refl c.loop-key.invariant.0)

pub returns-clause-taken : goal.returns-clause-taken
returns-clause-taken c = sym (ap (option_map (λ (t : Taken). (t.key, t.block))) (keeps_none c.args.self.now.entries c.loop-key.self-inside.cache.entries (sym c.pop_lru.ensures.value ∙ c.in_default.is) c.loop-key.invariant.1).0)

pub returns-clause-left : goal.returns-clause-left
returns-clause-left c =
    let none = keeps_none c.args.self.now.entries c.loop-key.self-inside.cache.entries (sym c.pop_lru.ensures.value ∙ c.in_default.is) c.loop-key.invariant.1 in
    rw c.pop_lru.ensures.entries (left_is (take (length c.loop-key.self-inside.cache.entries - 1) c.loop-key.self-inside.cache.entries) c.args.self.now.entries c.loop-key.self-inside.cache.cap c.args.self.now.capacity None none.0 none.1 c.loop-key.invariant.0)
