use Rattle.std.proofs.Common.{◌≡◌, ◌∙◌, ◌+◌, ◌-◌, ◌*◌, ◌<◌, ap, map, arith, length}
use Rattle.std.proofs.lemmas.List.{map-set, length-map}
use Rattle.esri_hdr.specs.Head.{Head, sample_len}
use Rattle.interleaved_raw.specs.Raw.{strided_at, stride_of}
use Rattle.interleaved_raw.proofs.Runs.{range_more, range_of_all}
use Rattle.band_blocks.proofs.Cells.{decoded, written_next}
use Rattle.band_blocks.proofs.cell.decode_apart.Goals as goal

pub loop-i-preserved : goal.loop-i-preserved
loop-i-preserved g c =
    let h = c.args.head.now in
    let so_far = c.loop-i.invariant in
    let at_is : c.loop-i.i * c.args.stride ≡ c.loop-i.i * stride_of h = ap (λ k. c.loop-i.i * k) c.requires.apart in
    let s_is : c.sample_len-s.result ≡ sample_len h.kind = c.sample_len-s.ensures.value ∙ ap sample_len (c.kind-kind.ensures ∙ c.requires.kind) in
    let n_is : c.loop-i.i * c.args.stride + c.sample_len-s.result - c.loop-i.i * c.args.stride ≡ sample_len h.kind = omega (arith, s_is) in
    let is = decoded g.T.Cell.value g.T.Cell.kind h c.head.inside.big c.args.bytes.now _ _ c.loop-i.i c.decode.result c.requires.kind (ap (λ (h : Head). h.big) c.head.view_is) at_is n_is c.decode.ensures.sample in
    let count = length-map c.args.cells.now g.T.Cell.value in
    let within : c.args.first + c.loop-i.i < length (map g.T.Cell.value c.args.cells.now) = omega (arith, c.requires.within, c.loop-i-test.true, count) in
    record {
      samples = map-set g.T.Cell.value c.loop-i.cells (c.args.first + c.loop-i.i) c.decode.result ∙ written_next (strided_at h c.args.bytes.now) (map g.T.Cell.value c.args.cells.now) (map g.T.Cell.value c.loop-i.cells) c.args.first c.loop-i.i (g.T.Cell.value c.decode.result) within is so_far.samples;
      range = range_more g.T.Cell.kind (strided_at h c.args.bytes.now) c.loop-i.i (g.T.Cell.value c.decode.result) is c.decode.ensures.range so_far.range;
    }

pub returns-clause-range : goal.returns-clause-range
returns-clause-range g c = range_of_all g.T.Cell.kind (strided_at c.args.head.now c.args.bytes.now) c.args.count (λ k below. c.loop-i.invariant.range k (omega arith))
