use Rattle.std.proofs.Common.{◌≡◌, ◌∙◌, ap, sym, rules, ℤ, List, ℕ, Some, w64, to_z, of_z}
use denote.Bor.{Bor}
use Rattle.std.specs.Option.{option_map}
use Rattle.vrt_profile.proofs.ShortNumbers.{piece_value, piece_behind}
use Rattle.vrt_profile.proofs.fronts.short_value.Goals as goal

pub returns-clause-value : goal.returns-clause-value
returns-clause-value c =
    let v = c.in_ok-value in
    let b = c.in_ok-behind in
    let same : to_z w64 (of_z w64 v.value) ≡ v.value = search rules in
    piece_value c.args.text.now v.rest.now v.value (option_map (λ (r : Bor (List ℕ)). r.now) b.behind) v.ensures.front b.ensures.behind ∙ ap (λ (z : ℤ). Some z) (sym same)

pub returns-clause-behind : goal.returns-clause-behind
returns-clause-behind c =
    let v = c.in_ok-value in
    let b = c.in_ok-behind in
    piece_behind c.args.text.now v.rest.now v.value (option_map (λ (r : Bor (List ℕ)). r.now) b.behind) v.ensures.front b.ensures.behind
