use Rattle.std.proofs.Common.{◌≡◌, ◌∙◌, sym, ap, rules, Some, to_z, of_z}
use mir.Syntax.{w128}
use Rattle.geotransform.proofs.Few.{near_few}
use Rattle.geotransform.proofs.decimal.few_places.Goals as goal

pub returns-then-has_ticks : goal.returns-then-has_ticks
returns-then-has_ticks c =
    let f = c.args.few in
    let v = c.few_at in
    let e : to_z w128 (of_z w128 c.signed.result) ≡ c.signed.result = search rules in
    ap Some (e ∙ c.signed.ensures.value)
    ∙ near_few c.args.places f.mantissa v.result f.power f.negative c.requires.places (sym c.has_ticks.ensures ∙ c.if-has_ticks.true) v.ensures
