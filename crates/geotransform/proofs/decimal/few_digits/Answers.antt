use Rattle.std.proofs.Common.{◌≡◌, ◌∙◌, ap, arith, rules, subst, sym, Some, List, ℕ, to_z, of_z, pos}
use Rattle.std.specs.Prelude.{◌-ℤ◌}
use mir.Syntax.{w32}
use Rattle.std.specs.Option.{option_map}
use Rattle.geotransform.specs.Decimal.{fraction_at}
use Rattle.geotransform.specs.Parts.{counted_digits}
use Rattle.geotransform.proofs.Few.{few_are}
use Rattle.geotransform.proofs.decimal.few_digits.Goals as goal

pub returns : goal.returns
returns c =
    let s = c.sign_at-negative in
    let w = c.digits_behind-whole in
    let p = c.in_ok-places in
    let e : to_z w32 (of_z w32 c.power_behind.result) ≡ c.power_behind.result = search rules in
    let x : to_z w32 (of_z w32 c.in_ok-exponent.exponent) ≡ c.in_ok-exponent.exponent = search rules in
    few_are c.args.text.now (s.result.0, s.result.1.now) w.result.0 w.result.1 p.places p.mantissa p.rest.now _ s.ensures.value (omega (arith, c.if-text-gt19.false)) w.ensures.count w.ensures.within w.ensures.number
    (subst (λ (l : List ℕ). option_map (counted_digits w.result.1) (fraction_at l) ≡ Some (p.places, (p.mantissa, p.rest.now))) c.split_at.ensures.back p.ensures.value)
    (sym c.in_ok-exponent.ensures.value) c.if-whole-places-eq0.false
    ∙ ap (λ n. Some (s.result.0, (p.mantissa, n))) (ap (λ z. z -ℤ pos p.places) (sym x) ∙ sym (e ∙ c.power_behind.ensures.value))
