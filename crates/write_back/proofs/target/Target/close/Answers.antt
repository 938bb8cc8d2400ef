use Rattle.std.proofs.Common.{◌≡◌, ◌<◌, ℕ, Some, None, IsSome, refl, ap, sym, subst, ◌∙◌, length, take}
use Rattle.std.specs.Prelude.{Ok, IfErr}
use Rattle.write_back.specs.View.{TargetView, shown_on}
use Rattle.write_back.specs.Files.{bytes_of, target_files, files_of, header_in, header_state, published_of, with_files, HasHeader, IsForm, IsWhole}
use Rattle.write_back.specs.Drafts.{published_by}
use Rattle.write_back.proofs.Published.{files_put, same_count}
use Rattle.write_back.proofs.target.Target.close.Goals as goal

pub returns-in-Ok-clause-files : goal.returns-in-Ok-clause-files
returns-in-Ok-clause-files g c = λ m e whole.
    let s = c.self.inside.sheet in
    let view = c.self.view_is in
    let all = subst (λ (t : TargetView). t.fault ≡ None → IsWhole t) (sym view) whole in
    let form = subst (λ (t : TargetView). IsForm t.output) (sym view) c.requires.target.form in
    let headed = subst (λ (t : TargetView). HasHeader (header_in t.output) (g.F.Folder.names c.args.folder.now) t.name t.header) (sym view) c.requires.target.headed in
    let o = c.in-Ok.ensures in
    let some = subst IsSome (sym e) refl in
    let bytes = o.bytes.all some form (all c.in_default.is) in
    let name = c.into_draft.ensures.name ∙ o.kept.name in
    let file = bytes_of c.self.inside.sheet.output (shown_on c.self.inside.sheet.output c.self.inside.sheet.pool c.self.inside.sheet.draft) in
    let put = c.publish_all.ensures.told m file (o.kept.names ∙ e) (c.into_draft.ensures.bytes file bytes) in
    subst (λ (t : TargetView). g.F.Folder.names c.publish_all.new.folder ≡ Some (with_files (take (published_of (length (target_files t)) c.publish_all.result) (target_files t)) m)) view
    (subst (λ n. g.F.Folder.names c.publish_all.new.folder ≡ Some (with_files (take n (files_of c.self.inside.sheet.output c.self.inside.sheet.name (shown_on c.self.inside.sheet.output c.self.inside.sheet.pool c.self.inside.sheet.draft))) m))
    (same_count g.F.Folder.draft_bytes g.F.Folder.draft_name c.self.inside.header (header_in c.self.inside.sheet.output) _ c.self.inside.sheet.name file c.publish_all.result headed)
    (files_put (header_in c.self.inside.sheet.output) _ c.self.inside.sheet.name _ file file (header_state g.F.Folder.draft_bytes g.F.Folder.draft_name c.self.inside.header) (published_by c.self.inside.header c.publish_all.result) m m _ e name refl headed put))

pub returns-in-Ok-clause-untouched : goal.returns-in-Ok-clause-untouched
returns-in-Ok-clause-untouched g c = subst (λ n. IfErr c.publish_all.result (λ e. e.published ≡ 0 → g.F.Folder.names c.publish_all.new.folder ≡ n)) c.in-Ok.ensures.kept.names c.publish_all.ensures.untouched

pub returns-in-Ok-clause-most : goal.returns-in-Ok-clause-most
returns-in-Ok-clause-most g c =
    let view = c.self.view_is in
    let headed = subst (λ (t : TargetView). HasHeader (header_in t.output) (g.F.Folder.names c.args.folder.now) t.name t.header) (sym view) c.requires.target.headed in
    let file = bytes_of c.self.inside.sheet.output (shown_on c.self.inside.sheet.output c.self.inside.sheet.pool c.self.inside.sheet.draft) in
    subst (λ (n : ℕ). IfErr c.publish_all.result (λ e. e.published < n))
    (same_count g.F.Folder.draft_bytes g.F.Folder.draft_name c.self.inside.header (header_in c.self.inside.sheet.output) _ c.self.inside.sheet.name file (Ok tt) headed ∙ ap (λ (t : TargetView). length (target_files t)) view)
    c.publish_all.ensures.most
