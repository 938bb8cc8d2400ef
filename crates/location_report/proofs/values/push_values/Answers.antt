use Rattle.std.proofs.Common.{rules, ◌≡◌, ◌∙◌, ◌++◌, ap, ℤ, pos, get_or, to_z, of_z}
use mir.Syntax.{w128}
use Rattle.outside.proofs.Parts.{on_err}
use Rattle.location_report.specs.Location.{value_text, values_text}
use Rattle.location_report.proofs.Appended.{one_more, keeps_then}
use Rattle.location_report.proofs.values.push_values.Goals as goal

pub loop-value-preserved : goal.loop-value-preserved
unfolding values_text
loop-value-preserved c =
    let value = get_or c.args.values.now c.loop-value.value-index (pos 0) in
    let same : to_z w128 (of_z w128 value) ≡ value = search rules in
    one_more value_text c.args.values.now c.loop-value.value-index (pos 0) c.args.out.now.items c.loop-value.out.items c.push_value.new.out.items c.loop-value-test.true c.loop-value.invariant (c.in_ok-push_value.ensures.ok ∙ ap (λ (v : ℤ). c.loop-value.out.items ++ value_text v) same)

pub returns-in_err-push_value-clause-err : goal.returns-in_err-push_value-clause-err
returns-in_err-push_value-clause-err c = on_err c.from_residual.result (keeps_then c.args.out.now.items c.loop-value.out.items c.push_value.new.out.items _ c.loop-value.invariant c.in_err-push_value.ensures.err)
