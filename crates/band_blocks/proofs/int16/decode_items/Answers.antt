use Rattle.std.proofs.Common.{◌≡◌, true, rules, arith, subst, sym, ◌∙◌, length}
use Rattle.std.specs.Int.{w16}
use Rattle.std.specs.List.{All}
use mir.Val.{SFits}
use Rattle.std.proofs.lemmas.Int.{to_z-of_z}
use Rattle.geotransform.specs.Types.{is_in}
use Rattle.geotransform.specs.declared.types.PixelType.TheVariants.{Int16}
use Rattle.hgt_tiles.specs.Samples.{item_at, row_of}
use Rattle.hgt_tiles.proofs.Rows.{filled}
use Rattle.lists_and_answers.proofs.Filled.{filled_more, range_more, range_of_all}
use Rattle.band_blocks.proofs.int16.decode_items.Goals as goal

pub loop-i-preserved : goal.loop-i-preserved
loop-i-preserved c =
    let fits : SFits w16 c.item_at.result = search rules in
    record {
      samples = filled_more (item_at c.args.bytes.now) c.loop-i.cells c.loop-i.i c.item_at.result _ (omega arith) (to_z-of_z w16 c.item_at.result fits) c.item_at.ensures.value c.loop-i.invariant.samples;
      range = range_more (is_in Int16) (item_at c.args.bytes.now) c.loop-i.i c.item_at.result c.item_at.ensures.value c.item_at.ensures.within c.loop-i.invariant.range;
    }

samples : (c : goal.After-loop-i) → c.loop-i.cells ≡ row_of c.args.bytes.now (length c.args.cells.now)
samples c = filled (item_at c.args.bytes.now) c.loop-i.cells (length c.args.cells.now) (omega arith) (λ k below. c.loop-i.invariant.samples k (omega arith))

pub returns-clause-samples : goal.returns-clause-samples
returns-clause-samples c = samples c

pub returns-clause-range : goal.returns-clause-range
returns-clause-range c = subst (All (λ n. is_in Int16 n ≡ true)) (sym (samples c)) (range_of_all (is_in Int16) (item_at c.args.bytes.now) (length c.args.cells.now) (λ k below. c.loop-i.invariant.range k (omega arith)))
