use Rattle.std.proofs.Common.{◌≡◌, ◌∙◌, ap, sym, rules, ℤ, w64, to_z, of_z}
use Rattle.vrt_profile.specs.Fields.{near_number}
use Rattle.vrt_profile.specs.Fronts.{first_piece, pair_with}
use Rattle.vrt_profile.proofs.ShortNumbers.{key_pair}
use Rattle.vrt_profile.proofs.lookup.pair_at.Goals as goal

pub returns-in-Some-clause-pair : goal.returns-in-Some-clause-pair
returns-in-Some-clause-pair c =
    let key = c.in-Some in
    let same : to_z w64 (of_z w64 key.input) ≡ key.input = search rules in
    c.pair_behind.ensures.pair
    ∙ ap (λ (z : ℤ). pair_with z (near_number (first_piece key.second.now).0)) same
    ∙ sym (key_pair c.args.text.now key.second.now key.input key.ensures.key)
