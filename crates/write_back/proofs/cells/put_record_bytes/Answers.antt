use Rattle.std.proofs.Common.{arith, subst}
use Rattle.std.specs.Prelude.{OnOk}
use Rattle.outside.specs.Outside.{Written}
use Rattle.write_back.proofs.CellBlocks.{record_before}
use Rattle.write_back.proofs.cells.put_record_bytes.Goals as goal

pub put_bytes-requires-clause-within : goal.put_bytes-requires-clause-within
put_bytes-requires-clause-within g c = omega (arith, record_before c.args.head.now c.args.x c.args.head.now.lines c.requires.column, c.record_at.ensures.value, c.requires.bytes, c.requires.long)

pub returns-clause-told : goal.returns-clause-told
returns-clause-told g c = subst (λ n. OnOk c.put_bytes.result (Written n c.args.bytes.now (g.F.Folder.draft_bytes c.args.draft.now) (g.F.Folder.draft_bytes c.put_bytes.new.draft))) c.record_at.ensures.value c.put_bytes.ensures.told
