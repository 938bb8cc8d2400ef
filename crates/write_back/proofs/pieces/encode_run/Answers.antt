use Rattle.std.proofs.Common.{◌≡◌, subst, map}
use Rattle.std.specs.List.{range_with_len}
use Rattle.esri_hdr.specs.Head.{Head}
use Rattle.interleaved_raw.specs.Raw.{strided_at as sample_of}
use Rattle.band_blocks.specs.Blocks.{samples_from}
use Rattle.write_back.proofs.Runs.{plain_holds}
use Rattle.write_back.proofs.pieces.encode_run.Goals as goal

pub encode-requires-clause-holds : goal.encode-requires-clause-holds
encode-requires-clause-holds c = plain_holds c.args.head.now c.plain.result c.args.bytes.now c.args.count c.plain.ensures.head c.requires.bytes

pub returns : goal.returns
returns c = record { samples = subst (λ (p : Head). map (sample_of p c.encode.new.bytes) (range_with_len 0 c.args.count) ≡ samples_from c.args.x c.args.count c.args.block.now.samples) c.plain.ensures.head c.encode.ensures.samples }
