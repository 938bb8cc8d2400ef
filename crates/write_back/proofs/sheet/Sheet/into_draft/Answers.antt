use Rattle.std.proofs.Common.{ap, sym, ◌∙◌}
use Rattle.write_back.specs.Seen.{sheet_of}
use Rattle.write_back.specs.View.{SheetView}
use Rattle.write_back.proofs.Known.{known_told}
use Rattle.write_back.proofs.sheet.Sheet.into_draft.Goals as goal

pub returns-in-Blocks-clause-bytes : goal.returns-in-Blocks-clause-bytes
returns-in-Blocks-clause-bytes g c = λ b is.
    let view = ap (sheet_of g.F.Folder.draft_bytes g.F.Folder.draft_len g.F.Folder.draft_name) (sym c.in-Blocks.is) ∙ c.self.view_is in
    known_told _ _ _ b (ap (λ (s : SheetView). s.draft) view ∙ is)
