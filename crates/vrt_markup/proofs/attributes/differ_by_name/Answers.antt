use Rattle.std.proofs.Common.{◌∙◌, ap, length, ◌==◌}
use Rattle.std.proofs.lemmas.List.Filters.{dedup_is}
use Rattle.vrt_markup.specs.Items.{pairs}
use Rattle.vrt_markup.proofs.Names.{keys_tell}
use Rattle.vrt_markup.proofs.attributes.differ_by_name.Goals as goal

pub returns : goal.returns
returns c =
    ap (λ n. n == c.len-count.result) (c.len.ensures ∙ c.dedup.new.self.ok.0)
    ∙ ap (λ n. length c.dedup.new.self.items == n) (c.len-count.ensures ∙ c.in_ok-keys.keys.ok.0)
    ∙ keys_tell (λ k. (k.0, k.1.now)) c.in_ok-keys.keys.items _ _ (pairs c.args.text.now).0 c.in_ok-keys.ensures.keys c.sort_unstable.ensures.permutation c.sort_unstable.ensures.sorted (dedup_is _ _ _ c.dedup.ensures.filtered)
