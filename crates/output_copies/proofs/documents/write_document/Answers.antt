use Rattle.std.proofs.Common.{refl, subst, sym, [], ◌∷◌, Some}
use Rattle.vrt_writing.specs.Spelled.{spelled}
use Rattle.vrt_profile.specs.Values.{DocumentValue}
use Rattle.translate_plan.specs.Documents.{document_by}
use Rattle.error_lines.specs.Faults.{IsOutside}
use Rattle.error_lines.specs.Progress.{progress}
use Rattle.error_lines.specs.Steps.{Publishes, all_done, Goes}
use Rattle.published_files.specs.Documents.{IsOfFolder}
use Rattle.output_copies.specs.Copying.{spoken}
use Rattle.output_copies.specs.Steps.{unless_quiet}
use Rattle.output_copies.proofs.Changes.{folder_outside, handed_on, out_outside, where_failed}
use Rattle.output_copies.proofs.Ends.{ends_after, ends_beside, ends_published, ends_so, err_is, outside_memory}
use Rattle.output_copies.proofs.Goes.{goes_refused, goes_stop, goes_then, spoken_done, spoken_stops}
use Rattle.output_copies.proofs.Puts.{puts_none, puts_part, puts_whole}
use Rattle.output_copies.proofs.Written.{document_steps}
use Rattle.output_copies.proofs.documents.write_document.Goals as goal

pub returns-in_err-document-clause-goes : goal.returns-in_err-document-clause-goes
returns-in_err-document-clause-goes g c = λ m d told at.
    let f = c.in_err-document.field-0.0 in
    goes_refused (document_steps c.args.writing.now.quiet d c.args.translation.now.plan c.args.writing.now.name.now) m c.from_residual.result f (g.F.Folder.names c.args.folder.now) (g.O.Sink.got c.args.out.now)
    (err_is c.from_residual.result f c.from_residual.ensures) told (outside_memory f c.in_err-document.ensures.memory)

pub returns-in_err-put_progress-clause-goes : goal.returns-in_err-put_progress-clause-goes
returns-in_err-put_progress-clause-goes g c = λ m d told at.
    let q = c.args.writing.now.quiet in
    let p = c.args.translation.now.plan in
    let name = c.args.writing.now.name.now in
    let f = c.in_err-put_progress.field-0.0 in
    let names = g.F.Folder.names c.args.folder.now in
    let file = Publishes name (spelled (document_by p name d.head)) ∷ [] in
    let ends = c.in_err-put_progress.ensures.ends names 0 in
    subst (λ r. Goes (all_done (document_steps q d p name)) m r names (g.O.Sink.got c.args.out.now) (g.O.Sink.got c.put_progress.new.out))
    (sym (err_is c.from_residual-in_err-put_progress.result f c.from_residual-in_err-put_progress.ensures))
    (goes_stop (unless_quiet q progress) file m f names (g.O.Sink.got c.args.out.now) (g.O.Sink.got c.put_progress.new.out)
    (spoken_stops q progress f m names (g.O.Sink.got c.args.out.now) (g.O.Sink.got c.put_progress.new.out) told (ends.never m told) c.in_err-put_progress.ensures.err))

pub returns-in_err-put_progress-clause-ends : goal.returns-in_err-put_progress-clause-ends
returns-in_err-put_progress-clause-ends g c =
    let f = c.in_err-put_progress.field-0.0 in
    ends_so {T = Unit {0}} _ _ _ _ _ f c.from_residual-in_err-put_progress.result (err_is c.from_residual-in_err-put_progress.result f c.from_residual-in_err-put_progress.ensures)
    (c.in_err-put_progress.ensures.ends (g.F.Folder.names c.args.folder.now) (g.F.Folder.faults c.args.folder.now))

pub returns-clause-goes : goal.returns-clause-goes
returns-clause-goes g c = λ m d told at.
    let q = c.args.writing.now.quiet in
    let p = c.args.translation.now.plan in
    let name = c.args.writing.now.name.now in
    let before = g.O.Sink.got c.args.out.now in
    let after = g.O.Sink.got c.put_progress.new.out in
    let names = g.F.Folder.names c.publish_document.new.folder in
    let file = Publishes name (spelled (document_by p name d.head)) ∷ [] in
    goes_then (unless_quiet q progress) file m m c.publish_document.result names before after after
    (spoken_done q progress m (Some m) before after refl c.in_ok-put_progress.ensures.ok)
    (subst (λ (v : DocumentValue). Goes (all_done (Publishes name (spelled v) ∷ [])) m c.publish_document.result names after after) (c.in_ok-document.ensures.document d at)
    (c.publish_document.ensures.told m told after))

pub returns-clause-ends : goal.returns-clause-ends
returns-clause-ends g c =
    let told = g.F.Folder.names c.args.folder.now in
    let faults = g.F.Folder.faults c.args.folder.now in
    let now = g.F.Folder.faults c.publish_document.new.folder in
    let first = c.in_ok-put_progress.ensures.ends told faults in
    ends_after told told faults faults now (g.O.Sink.faults c.args.out.now) (g.O.Sink.faults c.put_progress.new.out) (g.O.Sink.faults c.put_progress.new.out) c.publish_document.result refl
    first.cause.folder_later first.cause.out_later
    (ends_beside told faults now (g.O.Sink.faults c.put_progress.new.out) c.publish_document.result
    (ends_published told faults now c.publish_document.result c.publish_document.ensures.faults c.publish_document.ensures.cause))

pub returns-in_err-document-clause-put : goal.returns-in_err-document-clause-put
returns-in_err-document-clause-put g c = puts_none (spoken c.args.writing.now.quiet progress) c.in_err-document.field-0.0 c.from_residual.result (g.O.Sink.got c.args.out.now) c.from_residual.ensures

pub returns-in_err-document-clause-outside : goal.returns-in_err-document-clause-outside
returns-in_err-document-clause-outside g c =
    let f = c.in_err-document.field-0.0 in
    handed_on IsOutside f c.from_residual.result c.from_residual.ensures (outside_memory f c.in_err-document.ensures.memory)

pub returns-in_err-put_progress-clause-put : goal.returns-in_err-put_progress-clause-put
returns-in_err-put_progress-clause-put g c =
    let r = c.from_residual-in_err-put_progress in
    puts_part (spoken c.args.writing.now.quiet progress) c.in_err-put_progress.field-0.0 r.result (g.O.Sink.got c.args.out.now) (g.O.Sink.got c.put_progress.new.out) r.ensures c.in_err-put_progress.ensures.err

pub returns-in_err-put_progress-clause-outside : goal.returns-in_err-put_progress-clause-outside
returns-in_err-put_progress-clause-outside g c =
    let f = c.in_err-put_progress.field-0.0 in
    let r = c.from_residual-in_err-put_progress in
    handed_on IsOutside f r.result r.ensures (out_outside f c.in_err-put_progress.ensures.faults)

pub returns-clause-put : goal.returns-clause-put
returns-clause-put g c = puts_whole (spoken c.args.writing.now.quiet progress) c.publish_document.result (g.O.Sink.got c.args.out.now) (g.O.Sink.got c.put_progress.new.out) c.in_ok-put_progress.ensures.ok

pub returns-clause-outside : goal.returns-clause-outside
returns-clause-outside g c = where_failed IsOfFolder IsOutside c.publish_document.result folder_outside c.publish_document.ensures.faults
