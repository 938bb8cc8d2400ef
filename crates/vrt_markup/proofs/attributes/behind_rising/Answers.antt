use Rattle.std.proofs.Common.{ℕ, List, arith, ◌∙◌, ap, sym}
use Rattle.vrt_markup.specs.Items.{Pair}
use Rattle.vrt_markup.specs.Attributes.{pair_view, spread_view}
use Rattle.vrt_markup.proofs.Rising.{spreads_more}
use Rattle.vrt_markup.proofs.Shorter.{pairs_next}
use Rattle.vrt_markup.proofs.attributes.behind_rising.Goals as goal

pub loop-pair-preserved : goal.loop-pair-preserved
loop-pair-preserved c = record {
  rising = spreads_more (spread_view c.loop-pair.spread) (spread_view c.in_ok-spread.spread) c.last_bytes.result c.loop-pair.rest.now (pair_view c.in-Some.pair) c.in-Some.more.now c.in_ok-spread.ensures.spread c.last_bytes.ensures.number (sym c.in-Some.ensures.pair)
      ∙ c.loop-pair.invariant.rising;
  left = sym (ap (λ (x : List Pair × List ℕ). x.1) (pairs_next c.loop-pair.rest.now (pair_view c.in-Some.pair) c.in-Some.more.now (sym c.in-Some.ensures.pair)))
      ∙ c.loop-pair.invariant.left;
  shorter = omega (arith, c.in-Some.ensures.shorter, c.loop-pair.invariant.shorter);
}
