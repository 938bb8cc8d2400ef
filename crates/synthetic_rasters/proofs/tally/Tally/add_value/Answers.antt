use Rattle.std.proofs.Common.{◌≡◌, ◌∙◌, ℤ, ◌+ℤ◌, [], ◌∷◌, ◌++◌, ap, rules}
use Rattle.std.specs.Int.{w128}
use mir.Val.{SFits, to_z, of_z}
use Rattle.std.proofs.lemmas.Int.{to_z-of_z}
use Rattle.synthetic_rasters.specs.Tally.{least_of, greatest_of}
use Rattle.synthetic_rasters.proofs.Tallied.{value_added}
use Rattle.synthetic_rasters.proofs.tally.Tally.add_value.Goals as goal

pub returns-clause-added : goal.returns-clause-added
returns-clause-added c = λ seen same.
    let summed : SFits w128 c.sum_with-self-inside.result = search rules in
    let least : SFits w128 c.least_with-self-inside.result = search rules in
    let greatest : SFits w128 c.greatest_with-self-inside.result = search rules in
    let old_sum : SFits w128 c.self.inside.sum = search rules in
    let old_least : SFits w128 c.self.inside.least = search rules in
    let old_greatest : SFits w128 c.self.inside.greatest = search rules in
    let value : SFits w128 c.args.value = search rules in
    let v : to_z w128 (of_z w128 c.args.value) ≡ c.args.value = to_z-of_z w128 c.args.value value in
    value_added seen c.args.value _ _ _ _ c.requires.value (c.self.view_is ∙ same)
    (to_z-of_z w128 c.sum_with-self-inside.result summed ∙ c.sum_with-self-inside.ensures.sum ∙ ap (λ (x : ℤ). x +ℤ to_z w128 (of_z w128 c.args.value)) (to_z-of_z w128 c.self.inside.sum old_sum) ∙ ap (λ (x : ℤ). c.self.inside.sum +ℤ x) v)
    (λ values counted is. to_z-of_z w128 c.least_with-self-inside.result least ∙ c.least_with-self-inside.ensures.least values counted (to_z-of_z w128 c.self.inside.least old_least ∙ is) ∙ ap (λ (x : ℤ). least_of (values ++ x ∷ [])) v)
    (λ values counted is. to_z-of_z w128 c.greatest_with-self-inside.result greatest ∙ c.greatest_with-self-inside.ensures.greatest values counted (to_z-of_z w128 c.self.inside.greatest old_greatest ∙ is) ∙ ap (λ (x : ℤ). greatest_of (values ++ x ∷ [])) v)
