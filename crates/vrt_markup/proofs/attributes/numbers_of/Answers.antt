use Rattle.std.proofs.Common.{ℕ, List, arith, ◌∙◌, ap, sym}
use Rattle.vrt_markup.specs.Items.{Pair}
use Rattle.vrt_markup.specs.Attributes.{pair_view}
use Rattle.vrt_markup.proofs.Names.{numbers_more}
use Rattle.vrt_markup.proofs.Shorter.{pairs_next}
use Rattle.vrt_markup.proofs.attributes.numbers_of.Goals as goal

pub loop-pair-preserved : goal.loop-pair-preserved
loop-pair-preserved c = record {
  numbers = numbers_more c.loop-pair.numbers.items c.push.new.self.items c.name_number.result c.loop-pair.rest.now (pair_view c.in-Some.pair) c.in-Some.more.now c.in_ok-push.ensures.items c.name_number.ensures.number (sym c.in-Some.ensures.pair)
      ∙ c.loop-pair.invariant.numbers;
  left = sym (ap (λ (x : List Pair × List ℕ). x.1) (pairs_next c.loop-pair.rest.now (pair_view c.in-Some.pair) c.in-Some.more.now (sym c.in-Some.ensures.pair)))
      ∙ c.loop-pair.invariant.left;
  shorter = omega (arith, c.in-Some.ensures.shorter, c.loop-pair.invariant.shorter);
}
