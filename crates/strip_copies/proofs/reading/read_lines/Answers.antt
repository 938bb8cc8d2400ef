use Rattle.std.proofs.Common.{◌≡◌, ◌∙◌, length, sym}
use Rattle.strip_copies.proofs.Told.{on_ok, told_lines, held_lines}
use Rattle.strip_copies.proofs.reading.read_lines.Goals as goal

pub returns-clause-pixels : goal.returns-clause-pixels
returns-clause-pixels g c = λ m e d at.
    let p = c.args.translation.now.plan in
    let long : length c.read_runs.new.out ≡ length c.args.out.now = c.read_runs.auto.out in
    on_ok c.read_runs.result _ _
    (λ are. told_lines (g.F.Folder.names c.args.folder.now) p d.head.name d.head.size c.args.lines.band c.args.lines.first c.args.lines.end (length c.args.out.now) m c.read_runs.new.out e (long ∙ c.requires.size) (sym long) (are d at))
    c.read_runs.ensures.samples

pub returns-clause-held : goal.returns-clause-held
returns-clause-held g c =
    let p = c.args.translation.now.plan in
    let t = c.requires.translation in
    let long : length c.read_runs.new.out ≡ length c.args.out.now = c.read_runs.auto.out in
    on_ok c.read_runs.result _ _
    (λ are. held_lines (g.F.Folder.names c.args.folder.now) p t.dataset.head.name t.dataset.head.size c.args.lines.band c.args.lines.first (length c.args.out.now) c.read_runs.new.out c.rules.ensures.kept (sym long) (are t.dataset t.at))
    c.read_runs.ensures.samples
