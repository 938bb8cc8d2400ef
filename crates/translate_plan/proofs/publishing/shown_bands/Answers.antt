use Rattle.std.proofs.Common.{◌≡◌, ◌<◌, length, arith, ◌∙◌}
use Rattle.translate_plan.proofs.Added.{bands_next}
use Rattle.translate_plan.proofs.publishing.shown_bands.Goals as goal

pub loop-k-preserved : goal.loop-k-preserved
loop-k-preserved c =
    let less : c.loop-k.k < length c.args.plan.now.bands = omega (arith, c.count-k-end.ensures.count, c.loop-k-test.true) in
    bands_next c.args.plan.now c.args.base.now c.args.name.now c.loop-k.k c.loop-k.bands c.push.new.self c.in_ok-shown_band.field-0 less c.loop-k.invariant c.in_ok-shown_band.ensures.band c.in_ok-push.ensures.ok
