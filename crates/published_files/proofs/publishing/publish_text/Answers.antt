use Rattle.std.proofs.Common.{◌∙◌, refl, Err}
use Rattle.published_files.proofs.Goes.{err_is, text_stops}
use Rattle.published_files.proofs.publishing.publish_text.Goals as goal

pub returns-in_err-draft-clause-told : goal.returns-in_err-draft-clause-told
returns-in_err-draft-clause-told g c = λ m told out.
    let f = c.in_err-draft.field-0.0 in
    text_stops m c.args.name.now c.args.text.now c.from_residual.result f (g.F.Folder.names c.draft_of.new.folder) out
    (err_is c.from_residual.result f c.from_residual.ensures) (c.in_err-draft.ensures.names ∙ told) c.in_err-draft.ensures.faults

pub returns-in-Err-clause-told : goal.returns-in-Err-clause-told
returns-in-Err-clause-told g c = λ m told out.
    text_stops m c.args.name.now c.args.text.now (Err c.write_fault.result) c.write_fault.result (g.F.Folder.names c.publish.new.self) out
    refl (c.in-Err.ensures.err ∙ (c.in_ok-draft.ensures.names ∙ told)) c.write_fault.ensures.outside
