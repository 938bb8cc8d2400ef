use Rattle.std.proofs.Common.{◌∙◌, ap, [], ◌∷◌, ◌++◌, rules}
use Rattle.catalog.proofs.Indexed.{grows_by, numbers_pushed}
use Rattle.catalog.proofs.links.Met.push.Goals as goal

pub invariant_of-self-2 : goal.invariant_of-self-2
invariant_of-self-2 c =
    numbers_pushed c.self.inside.datasets.items _ c.args.dataset c.self.inside.numbers c.keep_number.new.numbers _ c.self.invariant (c.in_ok-push.ensures.items ∙ ap (λ ds. ds ++ c.args.dataset ∷ []) c.reserve.ensures.items) c.in_default-keep_number.ensures.ok (search rules)

pub returns-clause-grows : goal.returns-clause-grows
returns-clause-grows c =
    grows_by c.args.self.now _ c.self.inside.datasets.items (c.args.dataset ∷ []) c.self.inside.links.items (c.args.link ∷ []) c.self.inside.sources c.self.view_is (c.in_ok-push.ensures.items ∙ ap (λ ds. ds ++ c.args.dataset ∷ []) c.reserve.ensures.items) c.in_default.ensures.items
