use Rattle.std.proofs.Common.{sym, ap, ◌≡◌, ◌∙◌, length, Err}
use Rattle.std.specs.Prelude.{slice_get}
use Rattle.band_blocks.proofs.Opened.{some_dataset, length_of, good_opened, absent_never, other_never}
use Rattle.band_blocks.proofs.files.open_same.Goals as goal

pub returns-in-Err-Absent-clause-never : goal.returns-in-Err-Absent-clause-never
returns-in-Err-Absent-clause-never g c = λ m told walked.
    let h = c.head-head.result.now in
    let name : h.name ≡ c.head.inside.name = sym (ap (λ h. h.name) c.head.view_is) in
    absurd (absent_never m c.args.cat.now c.args.id h c.head.inside.name walked c.head-head.ensures.head name (c.open.ensures.absent (c.in-Err-Absent.is ∙ ap Err c.in-Err-Absent.field-0-is) m told))

pub returns-then-len-was-clause-never : goal.returns-then-len-was-clause-never
returns-then-len-was-clause-never g c = λ m told walked.
    let h = c.head-head.result.now in
    let name : h.name ≡ c.head.inside.name = sym (ap (λ h. h.name) c.head.view_is) in
    let opened = c.in-Ok.ensures.ok m told in
    let long : c.len-len.result ≡ length opened.0 = c.len-len.ensures.len ∙ c.in-Ok.ensures.len opened.0 opened.2 in
    absurd (other_never m c.args.cat.now c.args.id h c.head.inside.name opened.0 c.length-was.result c.len-len.result walked c.head-head.ensures.head c.length-was.ensures.length name opened.1 long c.if-len-was.true)

pub returns-clause-good : goal.returns-clause-good
returns-clause-good g c =
    let len = g.F.Folder.file_len in
    let cat = c.args.cat.now in
    let h = c.head-head.result.now in
    let d = some_dataset (slice_get cat c.args.id) h c.head-head.ensures.head in
    let name : d.0.head.name ≡ c.head.inside.name = ap (λ h. h.name) d.2 ∙ sym (ap (λ h. h.name) c.head.view_is) in
    let long : len c.in-Ok.file ≡ d.0.length = sym c.len-len.ensures.len ∙ c.if-len-was.false ∙ sym (length_of (slice_get cat c.args.id) d.0 c.length-was.result d.1 c.length-was.ensures.length) in
    good_opened g.F.Folder.file_bytes len (g.F.Folder.names c.args.folder.now) (g.F.Folder.names c.open.new.self) cat c.args.id c.head.inside.name c.in-Ok.file d.0 d.1 (c.requires.file d.0 d.1) name long c.in-Ok.ensures.ok c.open.ensures.names
