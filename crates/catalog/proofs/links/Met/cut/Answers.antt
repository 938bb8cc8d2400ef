use Rattle.std.proofs.Common.{rules}
use Rattle.std.specs.Prelude.{nat_lt}
use Rattle.std.proofs.lemmas.Map.Made.{filter_same_pairs}
use Rattle.catalog.proofs.Indexed.{numbers_cut}
use Rattle.catalog.proofs.links.Met.cut.Goals as goal

pub invariant_of-self : goal.invariant_of-self
invariant_of-self c =
    numbers_cut c.self.inside.datasets.items c.truncate.new.self.items c.self.inside.numbers c.retain.new.self c.args.count c.self.invariant c.truncate.ensures.items c.retain.ensures.was_ordered
    (filter_same_pairs _ (λ e. nat_lt e.1 c.args.count) _ (λ k v b w f' t. search rules) c.self.inside.numbers.entries c.retain.new.self.entries c.retain.ensures.filtered)
