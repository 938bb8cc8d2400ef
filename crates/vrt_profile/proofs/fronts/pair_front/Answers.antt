use Rattle.std.proofs.Common.{◌≡◌, ℤ, subst, sym, rules, w64, to_z, of_z}
use Rattle.vrt_profile.specs.Fronts.{PairFront}
use Rattle.vrt_profile.specs.declared.rectangle.LutPair.{LutPair}
use Rattle.vrt_profile.proofs.ShortNumbers.{front_pair}
use Rattle.vrt_profile.proofs.fronts.pair_front.Goals as goal

abbrev pair : ℤ → ℤ → LutPair
pair input output = record { input = input; output = output }

pub returns-clause-pair : goal.returns-clause-pair
returns-clause-pair c =
    let text = c.args.text.now in
    let v = c.in_ok-input.input in
    let w = c.in_ok-output.output in
    let rest = c.in_ok-output.rest.now in
    let input : to_z w64 (of_z w64 v) ≡ v = search rules in
    let output : to_z w64 (of_z w64 w) ≡ w = search rules in
    subst (λ (z : ℤ). PairFront text (pair z (to_z w64 (of_z w64 w))) rest) (sym input)
    (subst (λ (z : ℤ). PairFront text (pair v z) rest) (sym output)
    (front_pair text c.in_ok-input.second.now rest v w c.in_ok-input.ensures.key c.in_ok-output.ensures.front))
