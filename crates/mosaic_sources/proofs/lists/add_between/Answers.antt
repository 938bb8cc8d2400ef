use Rattle.std.proofs.Common.{◌≡◌, ◌∙◌, ◌&&◌, ◌++◌, ◌∷◌, [], ℕ, ap, arith, cond, get_or, nat_le, nat_lt}
use Rattle.mosaic_sources.proofs.lists.add_between.Goals as goal

pub returns-clause-lists : goal.returns-clause-lists
returns-clause-lists c =
    let e : c.loop-at.at ≡ c.args.span.end = omega (arith, c.loop-at.auto.at-end, c.requires.within.order) in
    λ k less. c.loop-at.invariant.lists k less ∙ ap (λ (at : ℕ). cond (nat_le c.args.span.first k && nat_lt k at) (get_or c.args.lists.now.items k [] ++ c.args.number ∷ []) (get_or c.args.lists.now.items k [])) e
