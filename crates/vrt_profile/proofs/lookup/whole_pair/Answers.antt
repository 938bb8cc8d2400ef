use Rattle.std.proofs.Common.{◌≡◌, ◌∙◌, ◌∷◌, ap, sym, refl, rules, ℤ, Some, w64, to_z, of_z}
use Rattle.vrt_profile.specs.Fronts.{pair_with}
use Rattle.vrt_profile.specs.declared.rectangle.LutPair.{LutPair}
use Rattle.vrt_profile.proofs.ShortNumbers.{key_pair, key_behind, piece_value, piece_behind}
use Rattle.vrt_profile.proofs.lookup.whole_pair.Goals as goal

abbrev pair : ℤ → ℤ → LutPair
pair input output = record { input = input; output = output }

pub returns-clause-pair : goal.returns-clause-pair
returns-clause-pair c =
    let second = c.in_ok-input.second.now in
    let behind = c.in_ok-output.behind.now in
    let u = c.in_ok-input.input in
    let v = c.in_ok-output.output in
    let input : to_z w64 (of_z w64 u) ≡ u = search rules in
    let output : to_z w64 (of_z w64 v) ≡ v = search rules in
    key_pair c.args.text.now second u c.in_ok-input.ensures.front
    ∙ ap (pair_with u) (piece_value second (44 ∷ behind) v (Some behind) c.in_ok-output.ensures.front refl)
    ∙ ap (λ (z : ℤ). Some (pair u z)) (sym output)
    ∙ ap (λ (z : ℤ). Some (pair z (to_z w64 (of_z w64 v)))) (sym input)

pub returns-clause-behind : goal.returns-clause-behind
returns-clause-behind c =
    let second = c.in_ok-input.second.now in
    let behind = c.in_ok-output.behind.now in
    piece_behind second (44 ∷ behind) c.in_ok-output.output (Some behind) c.in_ok-output.ensures.front refl
    ∙ key_behind c.args.text.now second c.in_ok-input.input c.in_ok-input.ensures.front
