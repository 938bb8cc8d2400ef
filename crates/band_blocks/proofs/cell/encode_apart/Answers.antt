use Rattle.std.proofs.Common.{◌≡◌, ◌∙◌, ◌+◌, ◌-◌, ◌*◌, ◌≤◌, ap, map, arith, length, sym, pos, get_or}
use Rattle.std.proofs.lemmas.List.{get_or-map}
use Rattle.esri_hdr.specs.Head.{Head, sample_len}
use Rattle.interleaved_raw.specs.Raw.{stride_of, sample_bytes}
use Rattle.interleaved_raw.proofs.Runs.{room}
use Rattle.interleaved_raw.proofs.Writes.{written_more, others_more, sample_bytes_len}
use Rattle.band_blocks.proofs.Cells.{encoded}
use Rattle.band_blocks.proofs.cell.encode_apart.Goals as goal

pub loop-i-preserved : goal.loop-i-preserved
loop-i-preserved g c =
    let h = c.args.head.now in
    let i = c.loop-i.i in
    let x = c.index-cells-i.result in
    let ys = c.encode.new.bytes in
    let so_far = c.loop-i.invariant in
    let is_at : i * c.args.stride ≡ i * stride_of h = ap (λ k. i * k) c.requires.apart in
    let wide : sample_len h.kind ≤ stride_of h = omega (arith, c.requires.wide, c.requires.apart) in
    let is_s : c.sample_len-s.result ≡ sample_len h.kind = c.sample_len-s.ensures.value ∙ ap sample_len (c.kind-kind.ensures ∙ c.requires.kind) in
    let is_k : i * c.args.stride + c.sample_len-s.result - i * c.args.stride ≡ sample_len h.kind = omega (arith, is_s) in
    let is_ys : ys ≡ sample_bytes h (g.T.Cell.value x) = encoded g.T.Cell.kind h c.head.inside.big (g.T.Cell.value x) ys c.requires.kind (ap (λ (h : Head). h.big) c.head.view_is) c.encode.ensures in
    let is_n : g.T.Cell.value x ≡ get_or (map g.T.Cell.value c.args.cells.now) i (pos 0) = sym (get_or-map g.T.Cell.value c.args.cells.now i x (pos 0) c.loop-i-test.true ∙ ap g.T.Cell.value (sym c.index-cells-i.is)) in
    let len : length ys ≡ sample_len h.kind = ap length is_ys ∙ sample_bytes_len h (g.T.Cell.value x) in
    let space = room h c.args.bytes.now i (length c.args.cells.now) c.loop-i-test.true c.requires.holds in
    record {
      written = written_more h c.loop-i.bytes ys i _ _ (g.T.Cell.value x) (map g.T.Cell.value c.args.cells.now) is_at is_k (omega (arith, is_at, space, c.loop-i.auto.bytes)) (len ∙ sym is_k) is_ys is_n wide so_far.written;
      others = others_more h c.args.bytes.now c.loop-i.bytes ys i _ _ is_at is_k (omega (arith, is_at, is_k, space, c.loop-i.auto.bytes)) (len ∙ sym is_k) wide so_far.others;
    }
