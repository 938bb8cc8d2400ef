use Rattle.std.proofs.Common.{◌≡◌, ◌∙◌, ◌+◌, ◌-◌, ◌*◌, arith}
use Rattle.esri_hdr.specs.Head.{sample_len}
use Rattle.write_back.proofs.Packs.{mid_length, piece_over}
use Rattle.write_back.proofs.packing.encode_over.Goals as goal

pub encode_run-requires-clause-bytes : goal.encode_run-requires-clause-bytes
encode_run-requires-clause-bytes c =
    let a = c.len_of_samples-from.ensures.bytes in
    let n = c.len_of_samples-len.ensures.bytes in
    let part : c.len_of_samples-from.result + c.len_of_samples-len.result - c.len_of_samples-from.result ≡ c.args.count * sample_len c.args.head.now.kind = omega (arith, n) in
    mid_length c.len_of_samples-from.result (c.len_of_samples-from.result + c.len_of_samples-len.result - c.len_of_samples-from.result) c.args.bytes.now (omega (arith, a, n, c.requires.within)) ∙ part

pub returns : goal.returns
returns c =
    let a = c.len_of_samples-from.ensures.bytes in
    let n = c.len_of_samples-len.ensures.bytes in
    let part : c.len_of_samples-from.result + c.len_of_samples-len.result - c.len_of_samples-from.result ≡ c.args.count * sample_len c.args.head.now.kind = omega (arith, n) in
    let long = mid_length c.len_of_samples-from.result (c.len_of_samples-from.result + c.len_of_samples-len.result - c.len_of_samples-from.result) c.args.bytes.now (omega (arith, a, n, c.requires.within)) in
    record {
      over = λ count bytes inside. piece_over c.args.head.now c.args.x c.args.count count c.len_of_samples-from.result (c.len_of_samples-from.result + c.len_of_samples-len.result - c.len_of_samples-from.result) c.args.bytes.now c.encode_run.new.bytes _ a part (c.encode_run.auto.bytes ∙ long) inside bytes c.encode_run.ensures.samples;
    }
