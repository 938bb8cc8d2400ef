use Rattle.std.proofs.Common.{subst}
use Rattle.std.specs.Prelude.{OnOk}
use Rattle.hgt_tiles.specs.Samples.{row_bytes}
use Rattle.outside.specs.Outside.{Written}
use Rattle.write_back.specs.Pieces.{AreBytes}
use Rattle.write_back.proofs.tiles.put_line.Goals as goal

pub returns-clause-small : goal.returns-clause-small
returns-clause-small g c = subst AreBytes c.encode_items.ensures.bytes c.put_bytes.ensures.small

pub returns-clause-told : goal.returns-clause-told
returns-clause-told g c =
    subst (λ n. OnOk c.put_bytes.result (Written n (row_bytes c.args.block.now.samples) (g.F.Folder.draft_bytes c.args.draft.now) (g.F.Folder.draft_bytes c.put_bytes.new.draft))) c.line_at.ensures.place
    (subst (λ l. OnOk c.put_bytes.result (Written c.line_at.result l (g.F.Folder.draft_bytes c.args.draft.now) (g.F.Folder.draft_bytes c.put_bytes.new.draft))) c.encode_items.ensures.bytes c.put_bytes.ensures.told)
