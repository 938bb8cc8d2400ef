use Rattle.std.proofs.Common.{◌≡◌, refl, ap, sym, subst, ◌∙◌}
use Rattle.write_back.specs.declared.sheet.Kind.TheVariants as kinds
use Rattle.write_back.specs.Seen.{sheet_of}
use Rattle.write_back.specs.View.{SheetView, IsSoundOn, IsRightOn}
use Rattle.write_back.specs.Drafts.{HasBytes}
use Rattle.write_back.proofs.Sheets.{bytes_by_blocks, bytes_by_rows, finished_of, on_two, unchanged}
use Rattle.write_back.proofs.sheet.Sheet.finish.Goals as goal

pub returns-in-Blocks-clause-kept : goal.returns-in-Blocks-clause-kept
returns-in-Blocks-clause-kept g c =
    let is = ap (sheet_of g.F.Folder.draft_bytes g.F.Folder.draft_len g.F.Folder.draft_name) (sym c.in-Blocks.is) ∙ c.self.view_is in
    let sound = subst (λ (s : SheetView). IsSoundOn s.output s) (sym is) c.requires.sound in
    finished_of _ _ _ _ c.args.self.now _ is refl c.flush.ensures.head sound c.flush.ensures.serves

pub returns-in-Blocks-clause-bytes : goal.returns-in-Blocks-clause-bytes
returns-in-Blocks-clause-bytes g c =
    let is = ap (sheet_of g.F.Folder.draft_bytes g.F.Folder.draft_len g.F.Folder.draft_name) (sym c.in-Blocks.is) ∙ c.self.view_is in
    let right = subst (λ (s : SheetView). IsRightOn s.output (g.F.Folder.names c.args.folder.now) s) (sym is) c.requires.right in
    on_two c.flush.result _ _ _ (λ changed empty. bytes_by_blocks _ _ _ c.args.self.now is right changed empty) c.flush.ensures.changed c.flush.ensures.empty

pub returns-in-Rows-clause-kept : goal.returns-in-Rows-clause-kept
returns-in-Rows-clause-kept g c = unchanged c.args.self.now _ _ _ _ _ c.self.view_is

pub returns-in-Rows-clause-bytes : goal.returns-in-Rows-clause-bytes
returns-in-Rows-clause-bytes g c =
    let is = ap (sheet_of g.F.Folder.draft_bytes g.F.Folder.draft_len g.F.Folder.draft_name) (sym c.in-Rows.is) ∙ c.self.view_is in
    let right = subst (λ (s : SheetView). IsRightOn s.output (g.F.Folder.names c.args.folder.now) s) (sym is) c.requires.right in
    subst (λ d. HasBytes (g.F.Folder.names c.args.folder.now) c.args.self.now d) (ap (λ (s : SheetView). s.draft) (is ∙ sym c.self.view_is)) (bytes_by_rows _ _ _ _ _ _ c.args.self.now is right)
