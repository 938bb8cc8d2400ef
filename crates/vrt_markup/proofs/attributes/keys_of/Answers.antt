use Rattle.std.proofs.Common.{◌∙◌, ap, sym}
use Rattle.vrt_markup.specs.Attributes.{pair_view}
use Rattle.vrt_markup.proofs.Names.{keys_more}
use Rattle.vrt_markup.proofs.attributes.keys_of.Goals as goal

pub loop-pair-preserved : goal.loop-pair-preserved
loop-pair-preserved c =
    keys_more (λ k. (k.0, k.1.now)) c.loop-pair.keys.items c.push.new.self.items (c.name_number.result, c.in-Some.pair.name) c.loop-pair.rest.now (pair_view c.in-Some.pair) c.in-Some.more.now c.in_ok-push.ensures.items (ap (λ n. (n, c.in-Some.pair.name.now)) c.name_number.ensures.number) (sym c.in-Some.ensures.pair)
    ∙ c.loop-pair.invariant
