use Rattle.std.proofs.Common.{◌≡◌, true, rules, arith, ap, subst, sym, ◌∙◌, ◌*◌, length, map}
use Rattle.std.specs.Int.{w128}
use Rattle.std.specs.List.{range_with_len, All}
use mir.Val.{SFits}
use Rattle.std.proofs.lemmas.Int.{to_z-of_z}
use Rattle.geotransform.specs.Types.{is_in}
use Rattle.interleaved_raw.specs.Raw.{strided_at, stride_of}
use Rattle.interleaved_raw.proofs.Runs.{filled, filled_more, range_more, range_of_all, same_rest}
use Rattle.interleaved_raw.proofs.Order.{row_stands}
use Rattle.interleaved_raw.proofs.samples.decode_run.Goals as goal

pub loop-i-preserved : goal.loop-i-preserved
loop-i-preserved c =
    let fits : SFits w128 c.decode_sample.result = search rules in
    let is = c.decode_sample.ensures.value ∙ same_rest c.args.head.now c.args.bytes.now _ (c.loop-i.i * stride_of c.args.head.now) (ap (λ k. c.loop-i.i * k) c.stride-stride.ensures.value) in
    record {
      samples = filled_more (strided_at c.args.head.now c.args.bytes.now) c.loop-i.out c.loop-i.i c.decode_sample.result _ (omega arith) (to_z-of_z w128 c.decode_sample.result fits) is c.loop-i.invariant.samples;
      range = range_more c.args.head.now.kind (strided_at c.args.head.now c.args.bytes.now) c.loop-i.i c.decode_sample.result is c.decode_sample.ensures.range c.loop-i.invariant.range;
    }

samples : (c : goal.After-loop-i) → c.loop-i.out ≡ map (strided_at c.args.head.now c.args.bytes.now) (range_with_len 0 (length c.args.out.now))
samples c = filled (strided_at c.args.head.now c.args.bytes.now) c.loop-i.out (length c.args.out.now) (omega arith) (λ k below. c.loop-i.invariant.samples k (omega arith))

pub returns-clause-samples : goal.returns-clause-samples
returns-clause-samples c = samples c

pub returns-clause-range : goal.returns-clause-range
returns-clause-range c = subst (All (λ n. is_in c.args.head.now.kind n ≡ true)) (sym (samples c)) (range_of_all c.args.head.now.kind (strided_at c.args.head.now c.args.bytes.now) (length c.args.out.now) (λ k below. c.loop-i.invariant.range k (omega arith)))

pub returns-clause-file : goal.returns-clause-file
returns-clause-file c = λ file band x y stands. samples c ∙ row_stands c.args.head.now file c.args.bytes.now band x y (length c.args.out.now) c.requires.holds stands
