use Rattle.std.proofs.Common.{◌∙◌, ap, List, ℕ, length, ◌==◌}
use Rattle.std.specs.Cmp.{nat_cmp_total, unsigned_ties}
use Rattle.std.proofs.lemmas.List.Filters.{dedup_is}
use Rattle.vrt_markup.proofs.Names.{left_tells}
use Rattle.catalog.proofs.Gatherings.{number_flips}
use Rattle.catalog.proofs.gathered.differ.Goals as goal

pub returns : goal.returns
returns c =
    ap (λ n. n == c.len-count.result) (c.len.ensures ∙ c.dedup.new.self.ok.0)
    ∙ ap (λ n. length c.dedup.new.self.items == n) (c.len-count.ensures ∙ c.args.numbers.ok.0)
    ∙ ap (λ (left : List ℕ). length left == length c.args.numbers.items) (dedup_is _ _ _ c.dedup.ensures.filtered)
    ∙ left_tells nat_cmp_total (λ x y. x == y) (λ x y. unsigned_ties x y) number_flips c.args.numbers.items _ c.sort.ensures.permutation c.in_ok-sort.ensures.sorted
