use Rattle.std.proofs.Common.{◌≡◌, ◌∙◌, ap, subst, arith, ℕ, length}
use Rattle.std.specs.List.{All}
use Rattle.buildvrt.specs.Judging.{IsOneOf}
use Rattle.mosaic_builds.proofs.Heads.{heads_long}
use Rattle.mosaic_builds.proofs.Stages.{made_within}
use Rattle.mosaic_builds.proofs.mosaic.mosaic_of_walked.Goals as goal

pub mosaic_of_inputs-requires : goal.mosaic_of_inputs-requires
mosaic_of_inputs-requires c =
    let long : length c.as_slice.result.now ≡ length c.args.ids.now = ap length (c.as_slice.ensures.items ∙ c.in-Ok.ensures.inputs) ∙ heads_long c.args.cat.now c.args.ids.now c.requires.known in
    let few = c.requires.few in
    record { few = omega (arith, long, few) }

pub returns-in-Ok-mosaic_of_inputs-clause-within : goal.returns-in-Ok-mosaic_of_inputs-clause-within
returns-in-Ok-mosaic_of_inputs-clause-within c =
    let long : length c.as_slice.result.now ≡ length c.args.ids.now = ap length (c.as_slice.ensures.items ∙ c.in-Ok.ensures.inputs) ∙ heads_long c.args.cat.now c.args.ids.now c.requires.known in
    subst (λ (n : ℕ). All (IsOneOf n) c.in-Ok-mosaic_of_inputs.made.1) long
    (made_within c.args.options.now c.as_slice.result.now c.in-Ok-mosaic_of_inputs.made c.in-Ok-mosaic_of_inputs.ensures.mosaic)
