use Rattle.std.proofs.Common.{rules, arith, ◌≡◌, ◌∙◌, ◌<◌, ◌++◌, ap, ℤ, pos, length, get_or, to_z, of_z}
use mir.Syntax.{w128}
use Rattle.outside.proofs.Parts.{on_err}
use Rattle.location_report.specs.Location.{band_text}
use Rattle.location_report.proofs.Appended.{one_band_more, keeps_more, keeps_both}
use Rattle.location_report.proofs.values.push_bands.Goals as goal

pub loop-at-preserved : goal.loop-at-preserved
loop-at-preserved c =
    let less_too : c.loop-at.at < length c.args.values.now = omega (arith, c.requires, c.loop-at-test.true) in
    let value = get_or c.args.values.now c.loop-at.at (pos 0) in
    let same : to_z w128 (of_z w128 value) ≡ value = search rules in
    record {
      text = one_band_more c.args.bands.now c.args.values.now c.loop-at.at 0 (pos 0) c.args.out.now.items c.loop-at.out.items c.push_band.new.out.items c.loop-at-test.true less_too c.loop-at.invariant.text (c.in_ok-push_band.ensures.ok ∙ ap (λ (v : ℤ). c.loop-at.out.items ++ band_text (get_or c.args.bands.now c.loop-at.at 0) v) same);
      front = keeps_more c.args.out.now.items c.loop-at.out.items c.push_band.new.out.items _ c.loop-at.invariant.front c.in_ok-push_band.ensures.ok;
    }

pub returns-in_err-push_band-clause-err : goal.returns-in_err-push_band-clause-err
returns-in_err-push_band-clause-err c = on_err c.from_residual.result (keeps_both c.args.out.now.items c.loop-at.out.items c.push_band.new.out.items c.loop-at.invariant.front c.in_err-push_band.ensures.err)
