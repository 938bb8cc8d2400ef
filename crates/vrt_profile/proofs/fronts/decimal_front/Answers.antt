use Rattle.std.proofs.Common.{subst, sym, ◌+◌}
use Rattle.vrt_profile.specs.Fronts.{DecimalFront, DigitsFront}
use Rattle.vrt_profile.proofs.ShortNumbers.{whole_front, point_front}
use Rattle.vrt_profile.proofs.fronts.decimal_front.Goals as goal

pub returns-in_ok-part-in-Some-clause-decimal : goal.returns-in_ok-part-in-Some-clause-decimal
returns-in_ok-part-in-Some-clause-decimal c =
    let text = c.args.text.now in
    let more = c.in-Some.more.now in
    let whole = c.in_ok-whole.whole in
    let part = c.in_ok-part-in-Some.part in
    let rest = c.in_ok-part-in-Some.rest.now in
    let digits = subst (λ r. DigitsFront text whole r) c.in-Some.ensures.behind c.in_ok-whole.ensures.digits in
    subst (λ n. DecimalFront text (n + part) rest) (sym c.product-size.ensures.value) (point_front text more rest whole part digits c.in_ok-part-in-Some.ensures.digits)

pub returns-in-None-clause-decimal : goal.returns-in-None-clause-decimal
returns-in-None-clause-decimal c =
    let text = c.args.text.now in
    let rest = c.in_ok-whole.rest.now in
    subst (λ n. DecimalFront text n rest) (sym c.product-size.ensures.value) (whole_front text rest c.in_ok-whole.whole c.in_ok-whole.ensures.digits)
