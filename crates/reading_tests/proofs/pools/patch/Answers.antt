use Rattle.std.proofs.Common.{◌≡◌, ◌≤◌, ◌∙◌, true, zero, suc, ℤ, List, [], ◌∷◌, length, ap, sym, arith, rules, to_z, of_z}
use mir.Syntax.{w128}
use Rattle.geotransform.specs.Types.{is_in}
use Rattle.geotransform.specs.declared.types.PixelType.{PixelType}
use Rattle.band_blocks.specs.Blocks.{AreIn}
use Rattle.block_cache.proofs.Held.{block_after_find, none_after_find}
use Rattle.reading_tests.proofs.pools.patch.Goals as goal

one_in : (kind : PixelType) (v w : ℤ) → w ≡ v → is_in kind v ≡ true → AreIn kind (w ∷ [])
one_in kind v w same h zero d less = ap (is_in kind) same ∙ h
one_in kind v w same h (suc k) d less = absurd (omega arith)

pub patch-requires-clause-within : goal.patch-requires-clause-within
patch-requires-clause-within c = rw c.find.follows.holds-at-none (none_after_find (λ e. 1 ≤ length e.block.samples) c.key-key.result c.args.pool.now.entries c.find.ensures.valid.distinct (sym c.in-None.ensures.block))

pub patch-requires-clause-range : goal.patch-requires-clause-range
patch-requires-clause-range c = rw c.find.follows.holds-at-none (none_after_find (λ e. AreIn e.block.kind (to_z w128 (of_z w128 c.args.sample) ∷ [])) c.key-key.result c.args.pool.now.entries c.find.ensures.valid.distinct (sym c.in-None.ensures.block))

pub patch-requires-2-clause-within : goal.patch-requires-2-clause-within
patch-requires-2-clause-within c =
    let n = c.len.ensures.count in
    let one = c.if-len-ne1.false in
    rw c.find.follows.holds-at-none (block_after_find (λ b. 1 ≤ length b.samples) c.key-key.result c.args.pool.now.entries c.in-Some.block.now c.find.ensures.valid.distinct (sym c.in-Some.ensures.block) (omega arith))

pub patch-requires-2-clause-range : goal.patch-requires-2-clause-range
patch-requires-2-clause-range c =
    let e : to_z w128 (of_z w128 c.args.sample) ≡ c.args.sample = search rules in
    let within : is_in c.in-Some.block.now.kind c.args.sample ≡ true = search (rules, c.if-not-holds.false, c.holds.ensures.within, c.kind.ensures.kind) in
    rw c.find.follows.holds-at-none (block_after_find (λ b. AreIn b.kind (to_z w128 (of_z w128 c.args.sample) ∷ [])) c.key-key.result c.args.pool.now.entries c.in-Some.block.now c.find.ensures.valid.distinct (sym c.in-Some.ensures.block) (one_in c.in-Some.block.now.kind c.args.sample _ e within))
