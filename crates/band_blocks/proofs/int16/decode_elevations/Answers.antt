use Rattle.std.proofs.Common.{◌≡◌, true, map, arith, rules, subst, sym, ◌∙◌}
use Rattle.std.specs.Int.{w16}
use Rattle.std.specs.List.{range_with_len, All}
use mir.Val.{SFits}
use Rattle.std.proofs.lemmas.Int.{to_z-of_z}
use Rattle.geotransform.specs.Types.{is_in}
use Rattle.geotransform.specs.declared.types.PixelType.TheVariants.{Int16}
use Rattle.dted_records.specs.Records.{elevation_in}
use Rattle.dted_records.proofs.Columns.{filled}
use Rattle.lists_and_answers.proofs.Filled.{filled_more, range_more, range_of_all}
use Rattle.band_blocks.proofs.int16.decode_elevations.Goals as goal

pub loop-y-preserved : goal.loop-y-preserved
loop-y-preserved c =
    let fits : SFits w16 c.elevation_at.result = search rules in
    record {
      samples = filled_more (elevation_in c.args.head.now c.args.bytes.now) c.loop-y.cells c.loop-y.y c.elevation_at.result _ (omega arith) (to_z-of_z w16 c.elevation_at.result fits) c.elevation_at.ensures.value c.loop-y.invariant.samples;
      range = range_more (is_in Int16) (elevation_in c.args.head.now c.args.bytes.now) c.loop-y.y c.elevation_at.result c.elevation_at.ensures.value c.elevation_at.ensures.within c.loop-y.invariant.range;
    }

samples : (c : goal.After-loop-y) → c.loop-y.cells ≡ map (elevation_in c.args.head.now c.args.bytes.now) (range_with_len 0 c.args.head.now.points)
samples c = filled (elevation_in c.args.head.now c.args.bytes.now) c.loop-y.cells c.args.head.now.points (omega arith) (λ k below. c.loop-y.invariant.samples k (omega arith))

pub returns-clause-samples : goal.returns-clause-samples
returns-clause-samples c = samples c

pub returns-clause-range : goal.returns-clause-range
returns-clause-range c = subst (All (λ n. is_in Int16 n ≡ true)) (sym (samples c)) (range_of_all (is_in Int16) (elevation_in c.args.head.now c.args.bytes.now) c.args.head.now.points (λ k below. c.loop-y.invariant.range k (omega arith)))
