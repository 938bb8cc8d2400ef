use Rattle.std.proofs.Common.{subst}
use Rattle.std.specs.Prelude.{OnOk}
use Rattle.dted_records.specs.Written.{record_bytes}
use Rattle.outside.specs.Outside.{Written}
use Rattle.write_back.specs.Pieces.{AreBytes}
use Rattle.write_back.proofs.RecordBytes.{elevations_of}
use Rattle.write_back.proofs.cells.put_record.Goals as goal

pub encode_record-requires-clause-range : goal.encode_record-requires-clause-range
encode_record-requires-clause-range g c = elevations_of c.args.block.now.samples c.requires.range

pub returns-clause-small : goal.returns-clause-small
returns-clause-small g c = subst AreBytes c.encode_record.ensures.bytes c.put_bytes.ensures.small

pub returns-clause-told : goal.returns-clause-told
returns-clause-told g c =
    subst (λ n. OnOk c.put_bytes.result (Written n (record_bytes c.args.x c.args.block.now.samples) (g.F.Folder.draft_bytes c.args.draft.now) (g.F.Folder.draft_bytes c.put_bytes.new.draft))) c.record_at.ensures.value
    (subst (λ l. OnOk c.put_bytes.result (Written c.record_at.result l (g.F.Folder.draft_bytes c.args.draft.now) (g.F.Folder.draft_bytes c.put_bytes.new.draft))) c.encode_record.ensures.bytes c.put_bytes.ensures.told)
