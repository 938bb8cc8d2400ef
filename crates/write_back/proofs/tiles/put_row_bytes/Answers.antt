use Rattle.std.proofs.Common.{subst}
use Rattle.std.specs.Prelude.{OnOk}
use Rattle.outside.specs.Outside.{Written}
use Rattle.write_back.proofs.tiles.put_row_bytes.Goals as goal

pub returns-clause-told : goal.returns-clause-told
returns-clause-told g c = subst (λ n. OnOk c.put_bytes.result (Written n c.args.bytes.now (g.F.Folder.draft_bytes c.args.draft.now) (g.F.Folder.draft_bytes c.put_bytes.new.draft))) c.line_at.ensures.place c.put_bytes.ensures.told
