use Rattle.std.proofs.Common.{◌∙◌, ap, sym, map}
use Rattle.std.specs.List.{range_with_len, sum}
use Rattle.byteorder.specs.Endian.{big_bytes}
use Rattle.dted_records.specs.Records.{elevation_in}
use Rattle.dted_records.specs.Written.{summed_bytes}
use Rattle.dted_records.proofs.Encoded.{record_again}
use Rattle.write_back.proofs.RecordBytes.{elevations_of}
use Rattle.write_back.proofs.packing.encode_column.Goals as goal

pub encode_record-requires-clause-range : goal.encode_record-requires-clause-range
encode_record-requires-clause-range c = elevations_of c.args.block.now.samples c.requires.range

pub returns-clause-samples : goal.returns-clause-samples
returns-clause-samples c =
    ap (λ l. map (elevation_in c.args.head.now l) (range_with_len 0 c.args.head.now.points)) c.encode_record.ensures.bytes
    ∙ record_again c.args.head.now c.args.block.now.samples c.args.x (big_bytes 4 (sum (summed_bytes c.args.x c.args.block.now.samples))) (sym c.requires.room) (elevations_of c.args.block.now.samples c.requires.range)
