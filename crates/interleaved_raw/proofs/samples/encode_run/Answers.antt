use Rattle.std.proofs.Common.{arith, refl, ap, ◌∙◌, sym, ◌+◌, ◌*◌, ◌-◌, ◌≤◌, ◌≡◌, pos, ℕ, length, get_or}
use Rattle.std.specs.Int.{w128}
use mir.Val.{SFits}
use Rattle.std.proofs.lemmas.Int.{to_z-of_z}
use Rattle.esri_hdr.specs.Head.{sample_len}
use Rattle.interleaved_raw.specs.Raw.{stride_of, sample_bytes}
use Rattle.geotransform.proofs.Ranges.{fits as in_fits}
use Rattle.interleaved_raw.proofs.Writes.{written_more, others_more, run_again, sample_bytes_len}
use Rattle.interleaved_raw.proofs.Runs.{room}
use Rattle.interleaved_raw.proofs.samples.encode_run.Goals as goal

pub loop-i-preserved : goal.loop-i-preserved
loop-i-preserved c =
    let s : ℕ = sample_len c.args.head.now.kind in
    let is_at : c.loop-i.i * c.stride-stride.result ≡ c.loop-i.i * stride_of c.args.head.now = ap (λ x. c.loop-i.i * x) c.stride-stride.ensures.value in
    let wide : s ≤ stride_of c.args.head.now = omega (arith, c.stride-stride.ensures.wide, c.stride-stride.ensures.value) in
    let is_s : c.sample_len-s.result ≡ s = c.sample_len-s.ensures.value ∙ ap (λ h. sample_len h.kind) c.head.view_is in
    let is_k : c.loop-i.i * c.stride-stride.result + c.sample_len-s.result - c.loop-i.i * c.stride-stride.result ≡ s = omega (arith, is_s) in
    let fits : SFits w128 (get_or c.args.samples.now c.loop-i.i (pos 0)) = in_fits c.args.head.now.kind _ (c.requires.range c.loop-i.i (pos 0) c.loop-i-test.true) in
    let is_ys : c.write_sample.new.bytes ≡ sample_bytes c.args.head.now (get_or c.args.samples.now c.loop-i.i (pos 0)) = c.write_sample.ensures ∙ ap (sample_bytes c.args.head.now) (to_z-of_z w128 _ fits) in
    let len : length c.write_sample.new.bytes ≡ s = ap length is_ys ∙ sample_bytes_len c.args.head.now (get_or c.args.samples.now c.loop-i.i (pos 0)) in
    let space = room c.args.head.now c.args.bytes.now c.loop-i.i (length c.args.samples.now) c.loop-i-test.true c.requires.holds in
    record {
      written = written_more c.args.head.now c.loop-i.bytes c.write_sample.new.bytes c.loop-i.i _ _ (get_or c.args.samples.now c.loop-i.i (pos 0)) c.args.samples.now is_at is_k (omega (arith, is_at, space, c.loop-i.auto.bytes)) (len ∙ sym is_k) is_ys refl wide c.loop-i.invariant.written;
      others = others_more c.args.head.now c.args.bytes.now c.loop-i.bytes c.write_sample.new.bytes c.loop-i.i _ _ is_at is_k (omega (arith, is_at, is_k, space, c.loop-i.auto.bytes)) (len ∙ sym is_k) wide c.loop-i.invariant.others;
    }

pub returns-clause-samples : goal.returns-clause-samples
returns-clause-samples c = run_again c.args.head.now c.loop-i.bytes c.args.samples.now c.requires.range (λ k less. c.loop-i.invariant.written k (omega arith))
