use Rattle.std.proofs.Common.{◌*ℤ◌, ◌*◌, ◌^◌, FitsSigned}
use Rattle.std.proofs.lemmas.Int.{to_z-of_z}
use Rattle.std.specs.Int.{w64, w128}
use Rattle.geotransform.proofs.Products.{wide, product_within, steps_fit}
use Rattle.geotransform.proofs.rounding.times.Goals as goal

pub overflow_mul-result : goal.overflow_mul-result
overflow_mul-result c =
    let steps : FitsSigned w64 c.args.steps = c.ranges.steps in
    let steps' : FitsSigned w128 c.args.steps = wide c.args.steps c.ranges.steps in
    let step : FitsSigned w128 c.args.step = c.ranges.step in
    simp to_z-of_z (steps_fit c.args.steps c.args.step c.requires.steps c.requires.step)

pub returns : goal.returns
returns c =
    let steps : FitsSigned w64 c.args.steps = c.ranges.steps in
    let steps' : FitsSigned w128 c.args.steps = wide c.args.steps c.ranges.steps in
    let step : FitsSigned w128 c.args.step = c.ranges.step in
    let fits : FitsSigned w128 (c.args.steps *ℤ c.args.step) = steps_fit c.args.steps c.args.step c.requires.steps c.requires.step in
    record {
      value = simp to_z-of_z;
      bound = simp to_z-of_z (product_within c.args.steps c.args.step 16777216 (18 * 10 ^ 28) c.requires.steps c.requires.step);
    }
