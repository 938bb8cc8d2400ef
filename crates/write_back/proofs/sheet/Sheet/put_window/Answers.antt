use Rattle.std.proofs.Common.{◌+◌, ◌≤◌, ◌<◌, refl, ap, sym, subst, ◌∙◌}
use Rattle.write_back.specs.declared.sheet.Kind.TheVariants as kinds
use Rattle.write_back.specs.Seen.{sheet_of}
use Rattle.write_back.specs.View.{SheetView, bands_of, line_count_of, IsNext, IsRightOn}
use Rattle.write_back.proofs.Sheets.{kept_of, put_of, on_two, rows_kept_of, rows_put_of}
use Rattle.write_back.proofs.sheet.Sheet.put_window.Goals as goal

pub returns-in-Blocks-clause-kept : goal.returns-in-Blocks-clause-kept
returns-in-Blocks-clause-kept g c =
    let is = ap (sheet_of g.F.Folder.draft_bytes g.F.Folder.draft_len g.F.Folder.draft_name) (sym c.in-Blocks.is) ∙ c.self.view_is in
    kept_of _ _ c.args.rect _ _ c.args.self.now _ is refl c.put_window.ensures.head c.put_window.ensures.serves

pub returns-in-Blocks-clause-put : goal.returns-in-Blocks-clause-put
returns-in-Blocks-clause-put g c =
    let is = ap (sheet_of g.F.Folder.draft_bytes g.F.Folder.draft_len g.F.Folder.draft_name) (sym c.in-Blocks.is) ∙ c.self.view_is in
    let right = subst (λ (s : SheetView). IsRightOn s.output (g.F.Folder.names c.args.folder.now) s) (sym is) c.requires.right in
    let less = subst (λ (s : SheetView). c.args.band < bands_of s.output) (sym is) c.requires.band in
    on_two c.put_window.result _ _ _ (λ changed met. put_of _ _ c.args.band c.args.rect c.args.samples.now _ _ c.args.self.now _ is refl c.put_window.ensures.head right less c.put_window.ensures.serves.told changed met) c.put_window.ensures.changed c.put_window.ensures.met

pub returns-in-Rows-clause-kept : goal.returns-in-Rows-clause-kept
returns-in-Rows-clause-kept g c =
    let is = ap (sheet_of g.F.Folder.draft_bytes g.F.Folder.draft_len g.F.Folder.draft_name) (sym c.in-Rows.is) ∙ c.self.view_is in
    let next = subst (λ (s : SheetView). IsNext s.output s.lines c.args.rect) (sym is) c.requires.next in
    let down = subst (λ (s : SheetView). c.args.rect.y + c.args.rect.h ≤ line_count_of s.output) (sym is) c.requires.down in
    let o = c.put_lines.ensures in
    rows_kept_of _ _ c.args.rect _ _ _ _ _ _ _ _ _ _ _ _ _ _ _ _ c.args.self.now _ is refl o.form o.most next.2 down o.name o.names o.reads o.calls o.counted o.few

pub returns-in-Rows-clause-put : goal.returns-in-Rows-clause-put
returns-in-Rows-clause-put g c =
    let is = ap (sheet_of g.F.Folder.draft_bytes g.F.Folder.draft_len g.F.Folder.draft_name) (sym c.in-Rows.is) ∙ c.self.view_is in
    let right = subst (λ (s : SheetView). IsRightOn s.output (g.F.Folder.names c.args.folder.now) s) (sym is) c.requires.right in
    let less = subst (λ (s : SheetView). c.args.band < bands_of s.output) (sym is) c.requires.band in
    let next = subst (λ (s : SheetView). IsNext s.output s.lines c.args.rect) (sym is) c.requires.next in
    let down = subst (λ (s : SheetView). c.args.rect.y + c.args.rect.h ≤ line_count_of s.output) (sym is) c.requires.down in
    let o = c.put_lines.ensures in
    on_two c.put_lines.result _ _ _ (λ told lines. rows_put_of _ _ c.args.band c.args.rect c.args.samples.now _ _ _ _ _ _ _ _ _ _ c.args.self.now _ is refl o.form less next down c.requires.size o.names lines right told) o.told o.lines
