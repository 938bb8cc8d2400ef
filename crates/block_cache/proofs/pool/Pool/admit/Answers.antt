use Rattle.block_cache.specs.Entries.{entry_of}
use Rattle.block_cache.proofs.Kept.{admitted_keeps}
use Rattle.block_cache.proofs.pool.Pool.admit.Goals as goal

pub invariant_of-self-then-held : goal.invariant_of-self-then-held
invariant_of-self-then-held c = rw c.in-Ok.ensures.entries (admitted_keeps c.args.key (entry_of c.args.block c.args.dirty) c.self.inside.cache.entries c.self.inside.cache.cap c.self.invariant)

pub returns-then-held-clause-valid : goal.returns-then-held-clause-valid
returns-then-held-clause-valid c = rw c.in-Ok.ensures.entries (admitted_keeps c.args.key (entry_of c.args.block c.args.dirty) c.self.inside.cache.entries c.self.inside.cache.cap c.self.invariant)

pub invariant_of-self-in-Some : goal.invariant_of-self-in-Some
invariant_of-self-in-Some c = rw c.in-Ok.ensures.entries (admitted_keeps c.args.key (entry_of c.args.block c.args.dirty) c.self.inside.cache.entries c.self.inside.cache.cap c.self.invariant)

pub returns-in-Some-clause-valid : goal.returns-in-Some-clause-valid
returns-in-Some-clause-valid c = rw c.in-Ok.ensures.entries (admitted_keeps c.args.key (entry_of c.args.block c.args.dirty) c.self.inside.cache.entries c.self.inside.cache.cap c.self.invariant)

pub invariant_of-self-in-None : goal.invariant_of-self-in-None
invariant_of-self-in-None c = rw c.in-Ok.ensures.entries (admitted_keeps c.args.key (entry_of c.args.block c.args.dirty) c.self.inside.cache.entries c.self.inside.cache.cap c.self.invariant)

pub returns-in-None-clause-valid : goal.returns-in-None-clause-valid
returns-in-None-clause-valid c = rw c.in-Ok.ensures.entries (admitted_keeps c.args.key (entry_of c.args.block c.args.dirty) c.self.inside.cache.entries c.self.inside.cache.cap c.self.invariant)
