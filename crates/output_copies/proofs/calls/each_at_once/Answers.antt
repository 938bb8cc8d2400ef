use Rattle.std.proofs.Common.{◌≡◌, ◌∙◌, ◌+◌, arith, get_or, refl, subst}
use Rattle.std.specs.Fork.{ChangesAt}
use Rattle.std.proofs.lemmas.List.{get_or_default}
use Rattle.output_copies.proofs.calls.each_at_once.Goals as goal

pub each_from-requires-clause-accepts : goal.each_from-requires-clause-accepts
each_from-requires-clause-accepts g c κs within = λ i d less p same.
    let here : i ≡ 0 + i = omega arith in
    subst (λ n. g.F.Fn.pre c.args.f.now (n, (p, tt))) here (c.requires.accepts i p less (same ∙ get_or_default c.args.values.now i d p.now less))

pub returns-clause-changes : goal.returns-clause-changes
returns-clause-changes g c = λ i d less.
    let here : 0 + i ≡ i = omega arith in
    (refl, subst (λ n. ChangesAt g.F.Fn c.args.f.now n (get_or c.args.values.now i d) (get_or c.each_from.new.values i d)) here (c.each_from.ensures.changes i d less))
