use Rattle.std.proofs.Common.{rules, ◌≡◌, ◌∙◌, sym, ap, Some, to_z, of_z}
use mir.Syntax.{w128}
use Rattle.geotransform.specs.Types.{is_in, clamp}
use Rattle.vrt_profile.specs.Value.{source_value}
use Rattle.nearest_window.specs.Taken.{taken_by}
use Rattle.nearest_window.proofs.Canvases.{clamped}
use Rattle.nearest_window.proofs.taking.Taking.made.Goals as goal

pub returns-in-Some : goal.returns-in-Some
returns-in-Some c =
    let f : to_z w128 (of_z w128 c.clamp.result) ≡ c.clamp.result = search rules in
    let p : to_z w128 (of_z w128 c.args.pixel) ≡ c.args.pixel = search rules in
    let w : to_z w128 (of_z w128 c.in-Some.value) ≡ c.in-Some.value = search rules in
    let taken : taken_by c.args.self.now c.args.pixel ≡ Some c.in-Some.value = ap (λ t. taken_by t c.args.pixel) c.in-By.is ∙ ap (source_value c.in-By.source.now) (sym p) ∙ sym c.value.ensures.value ∙ c.in-Some.is in
    clamped c.args.kind c.in-Some.value (to_z w128 (of_z w128 c.clamp.result)) (taken_by c.args.self.now c.args.pixel) (f ∙ c.clamp.ensures.value ∙ ap (clamp c.args.kind) w) (ap (is_in c.args.kind) f ∙ c.clamp.ensures.within) taken
