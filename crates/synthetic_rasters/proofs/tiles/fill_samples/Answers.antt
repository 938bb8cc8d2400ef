use Rattle.std.proofs.Common.{◌≡◌, true, rules, arith, ℕ, ℤ, subst, sym, length, map}
use Rattle.std.specs.Int.{w128}
use Rattle.std.specs.List.{range_with_len, All}
use mir.Val.{SFits}
use Rattle.std.proofs.lemmas.Int.{to_z-of_z}
use Rattle.std.proofs.lemmas.List.FromFn.{fill_by_all}
use Rattle.std.proofs.Common.{pos}
use Rattle.lists_and_answers.proofs.Filled.{filled_more, range_more, range_of_all}
use Rattle.geotransform.specs.Types.{is_in}
use Rattle.geotransform.specs.declared.types.PixelType.TheVariants.{Int16}
use Rattle.synthetic_rasters.specs.Tiles.{tile_sample}
use Rattle.synthetic_rasters.proofs.tiles.fill_samples.Goals as goal

pub loop-x-preserved : goal.loop-x-preserved
loop-x-preserved c =
    let fits : SFits w128 c.tile_sample.result = search rules in
    let is : c.tile_sample.result ≡ tile_sample c.args.tile c.loop-x.x c.args.line = c.tile_sample.ensures.sample in
    let f = λ (x : ℕ). tile_sample c.args.tile x c.args.line in
    record {
      samples = filled_more f c.loop-x.samples c.loop-x.x c.tile_sample.result _ (omega arith) (to_z-of_z w128 c.tile_sample.result fits) is c.loop-x.invariant.samples;
      range = range_more (is_in Int16) f c.loop-x.x c.tile_sample.result is c.tile_sample.ensures.typed c.loop-x.invariant.range;
    }

samples : (c : goal.After-loop-x) → c.loop-x.samples ≡ map (λ (x : ℕ). tile_sample c.args.tile x c.args.line) (range_with_len 0 (length c.args.samples.now))
samples c = fill_by_all (λ (x : ℕ). tile_sample c.args.tile x c.args.line) c.loop-x.samples (length c.args.samples.now) (pos 0) (omega arith) (λ k below. c.loop-x.invariant.samples k (omega arith))

pub returns-clause-samples : goal.returns-clause-samples
returns-clause-samples c = samples c

pub returns-clause-typed : goal.returns-clause-typed
returns-clause-typed c = subst (All (λ (n : ℤ). is_in Int16 n ≡ true)) (sym (samples c)) (range_of_all (is_in Int16) (λ (x : ℕ). tile_sample c.args.tile x c.args.line) (length c.args.samples.now) (λ k below. c.loop-x.invariant.range k (omega arith)))
