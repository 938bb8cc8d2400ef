use Rattle.std.proofs.Common.{refl, inr}
use Rattle.vrt_writing.specs.Spelled.{spelled}
use Rattle.error_lines.specs.declared.faults.Fault.TheVariants.{Memory}
use Rattle.published_files.proofs.Goes.{err_is, text_stops}
use Rattle.published_files.proofs.publishing.publish_document.Goals as goal

pub returns-in_err-text-clause-told : goal.returns-in_err-text-clause-told
returns-in_err-text-clause-told g c = λ m told out.
    text_stops m c.args.name.now (spelled c.args.document.now) c.from_residual.result Memory (g.F.Folder.names c.args.folder.now) out
    (err_is c.from_residual.result Memory c.from_residual.ensures) told (inr refl)
