use Rattle.std.proofs.Common.{◌≡◌, ◌∙◌, ◌∷◌, ap, sym, refl, rules, ℤ, Some, w64, to_z, of_z}
use Rattle.vrt_profile.specs.Fronts.{pair_with}
use Rattle.vrt_profile.specs.declared.rectangle.LutPair.{LutPair}
use Rattle.vrt_profile.proofs.ShortNumbers.{piece_value, piece_behind}
use Rattle.vrt_profile.proofs.lookup.pair_behind.Goals as goal

abbrev pair : ℤ → ℤ → LutPair
pair input output = record { input = input; output = output }

pub returns-in-Some-clause-pair : goal.returns-in-Some-clause-pair
returns-in-Some-clause-pair c =
    let u = c.args.input in
    let v = c.in-Some.output in
    let input : to_z w64 (of_z w64 u) ≡ u = search rules in
    let output : to_z w64 (of_z w64 v) ≡ v = search rules in
    let value = piece_value c.args.text.now (44 ∷ c.in-Some.behind.now) v (Some c.in-Some.behind.now) c.in-Some.ensures.front refl in
    ap (λ (z : ℤ). Some (pair z (to_z w64 (of_z w64 v)))) input ∙ ap (λ (z : ℤ). Some (pair u z)) output ∙ sym (ap (pair_with u) value)

pub returns-in-Some-clause-behind : goal.returns-in-Some-clause-behind
returns-in-Some-clause-behind c =
    piece_behind c.args.text.now (44 ∷ c.in-Some.behind.now) c.in-Some.output (Some c.in-Some.behind.now) c.in-Some.ensures.front refl
