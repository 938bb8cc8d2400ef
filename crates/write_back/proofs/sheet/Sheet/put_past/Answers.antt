use Rattle.std.proofs.Common.{◌<◌, refl, ap, sym, subst, ◌∙◌}
use Rattle.write_back.specs.Seen.{sheet_of}
use Rattle.write_back.specs.Packed.{AreApart}
use Rattle.write_back.specs.View.{SheetView, bands_of, IsRightOn}
use Rattle.write_back.proofs.Past.{passes_of, past_of}
use Rattle.write_back.proofs.Sheets.{on_two}
use Rattle.write_back.proofs.sheet.Sheet.put_past.Goals as goal

pub returns-in-Blocks-clause-kept : goal.returns-in-Blocks-clause-kept
returns-in-Blocks-clause-kept g c =
    let is = ap (sheet_of g.F.Folder.draft_bytes g.F.Folder.draft_len g.F.Folder.draft_name) (sym c.in-Blocks.is) ∙ c.self.view_is in
    let o = c.put_past.ensures in
    passes_of _ _ _ _ c.args.self.now _ is refl o.head o.serves o.pool o.one o.calls

pub returns-in-Blocks-clause-put : goal.returns-in-Blocks-clause-put
returns-in-Blocks-clause-put g c =
    let is = ap (sheet_of g.F.Folder.draft_bytes g.F.Folder.draft_len g.F.Folder.draft_name) (sym c.in-Blocks.is) ∙ c.self.view_is in
    let right = subst (λ (s : SheetView). IsRightOn s.output (g.F.Folder.names c.args.folder.now) s) (sym is) c.requires.right in
    let less = subst (λ (s : SheetView). c.args.band < bands_of s.output) (sym is) c.requires.band in
    let o = c.put_past.ensures in
    on_two c.put_past.result _ _ _ (λ changed met. past_of _ _ c.args.band c.args.block c.args.bytes.now _ _ c.args.self.now _ is refl o.head right less o.serves.told changed met) o.changed o.met

pub unreachable-requires : goal.unreachable-requires
unreachable-requires g c =
    let is = ap (sheet_of g.F.Folder.draft_bytes g.F.Folder.draft_len g.F.Folder.draft_name) (sym c.in-Rows.is) ∙ c.self.view_is in
    subst (λ (s : SheetView). AreApart s.output) (sym is) c.requires.apart
