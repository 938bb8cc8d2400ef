use Rattle.std.proofs.Common.{◌≡◌, ◌∙◌, ◌<◌, ◌+◌, ◌-◌, ap, sym, arith, rules, pos, ℕ, List, length, take, drop, get_or, to_z, of_z}
use Rattle.std.specs.Prelude.{neg_ℤ}
use Rattle.lists_and_answers.specs.Texts.{is_white}
use mir.Syntax.{w32}
use Rattle.geotransform.specs.Decimal.{number}
use Rattle.ascii_grid.specs.Scanning.{has_value}
use Rattle.ascii_grid.specs.Row.{value_or_zero}
use Rattle.ascii_grid.proofs.Fronts.{behind_minus, minus_dark, minus_has, minus_value}
use Rattle.ascii_grid.proofs.values.minus_at.Goals as goal

pub returns-in-Some-clause-dark : goal.returns-in-Some-clause-dark
returns-in-Some-clause-dark c = λ k less.
    let rest : List ℕ = take (length c.args.bytes.now - 1) (drop 1 c.args.bytes.now) in
    let within = c.in-Some.ensures.within in
    ap (λ (l : List ℕ). is_white (get_or l k 0)) (behind_minus c.args.bytes.now c.requires.first c.requires.minus)
    ∙ minus_dark rest c.in-Some.n k c.in-Some.ensures.digits (omega arith) less

pub returns-in-Some-clause-has : goal.returns-in-Some-clause-has
returns-in-Some-clause-has c =
    let rest : List ℕ = take (length c.args.bytes.now - 1) (drop 1 c.args.bytes.now) in
    let is = c.in-Some.ensures.value in
    let less = c.in-Some.ensures.small in
    let within = c.in-Some.ensures.within in
    let small : number (take c.in-Some.n rest) < 2147483648 = omega arith in
    ap (λ (l : List ℕ). has_value (take (c.in-Some.n + 1) l)) (behind_minus c.args.bytes.now c.requires.first c.requires.minus)
    ∙ minus_has rest c.in-Some.n c.in-Some.ensures.digits c.in-Some.ensures.some c.in-Some.ensures.few (omega arith) small

pub returns-in-Some-clause-value : goal.returns-in-Some-clause-value
returns-in-Some-clause-value c =
    let rest : List ℕ = take (length c.args.bytes.now - 1) (drop 1 c.args.bytes.now) in
    let is = c.in-Some.ensures.value in
    let less = c.in-Some.ensures.small in
    let within = c.in-Some.ensures.within in
    let small : number (take c.in-Some.n rest) < 2147483648 = omega arith in
    let e : to_z w32 (of_z w32 c.signed_number.result) ≡ c.signed_number.result = search rules in
    e ∙ c.signed_number.ensures ∙ ap (λ k. neg_ℤ (pos k)) is
    ∙ sym (ap (λ (l : List ℕ). value_or_zero (take (c.in-Some.n + 1) l)) (behind_minus c.args.bytes.now c.requires.first c.requires.minus)
    ∙ minus_value rest c.in-Some.n c.in-Some.ensures.digits c.in-Some.ensures.some c.in-Some.ensures.few (omega arith) small)
