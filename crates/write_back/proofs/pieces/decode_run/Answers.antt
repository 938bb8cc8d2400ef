use Rattle.std.proofs.Common.{◌≡◌, List, ℤ, subst, ap, ◌∙◌, length, map, arith}
use Rattle.std.proofs.lemmas.List.FromFn.{length-map-range_with_len}
use Rattle.std.specs.List.{range_with_len}
use Rattle.esri_hdr.specs.Head.{Head}
use Rattle.interleaved_raw.specs.Raw.{strided_at as sample_of}
use Rattle.band_blocks.specs.Blocks.{BlockView, written}
use Rattle.band_blocks.proofs.Rows.{length-written}
use Rattle.write_back.specs.Spots.{spots_from}
use Rattle.write_back.proofs.Runs.{plain_holds, run_stands}
use Rattle.write_back.proofs.pieces.decode_run.Goals as goal

pub decode-requires-clause-holds : goal.decode-requires-clause-holds
decode-requires-clause-holds c = plain_holds c.args.head.now c.plain.result c.args.bytes.now c.args.count c.plain.ensures.head c.requires.bytes

pub returns-clause-file : goal.returns-clause-file
returns-clause-file c = λ file band y stands.
    ap (λ (b : BlockView). b.samples) c.decode.ensures.samples
    ∙ ap (λ (l : List ℤ). written c.args.x l c.args.block.now.samples)
    (ap (λ (p : Head). map (sample_of p c.args.bytes.now) (range_with_len 0 c.args.count)) c.plain.ensures.head
    ∙ run_stands c.args.head.now file c.args.bytes.now band c.args.x y c.args.count c.requires.bytes stands)

pub returns-clause-count : goal.returns-clause-count
returns-clause-count c =
    let n = length-map-range_with_len (sample_of c.plain.result c.args.bytes.now) 0 c.args.count in
    ap (λ (b : BlockView). length b.samples) c.decode.ensures.samples
    ∙ length-written c.args.x (map (sample_of c.plain.result c.args.bytes.now) (range_with_len 0 c.args.count)) c.args.block.now.samples (omega (arith, n, c.requires.spots))
