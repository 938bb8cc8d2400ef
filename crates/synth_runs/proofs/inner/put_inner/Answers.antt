use Rattle.std.proofs.Common.{◌∙◌, subst, [], ◌∷◌}
use Rattle.vrt_writing.specs.Spelled.{spelled}
use Rattle.buildvrt.specs.Options.{Options}
use Rattle.error_lines.specs.declared.faults.Fault.TheVariants.{Memory}
use Rattle.error_lines.specs.Steps.{Publishes, all_done, Goes}
use Rattle.mosaic_builds.specs.Built.{built_by}
use Rattle.mosaic_builds.specs.Ends.{IsOfMaking}
use Rattle.output_copies.proofs.Ends.{err_is}
use Rattle.published_files.specs.Documents.{IsOfFolder}
use Rattle.synthetic_rasters.specs.Names.{inner_name}
use Rattle.synth_runs.specs.Runs.{inner_run}
use Rattle.synth_runs.proofs.Ending.{folder_making, where_failed}
use Rattle.synth_runs.proofs.Parts.{none_goes, inner_refused, inner_made}
use Rattle.synth_runs.proofs.inner.put_inner.Goals as goal

pub returns-in_err-options-clause-told : goal.returns-in_err-options-clause-told
returns-in_err-options-clause-told g c = λ m told out.
    none_goes (inner_run m) m c.from_residual.result Memory (g.F.Folder.names c.args.folder.now) out (err_is c.from_residual.result Memory c.from_residual.ensures) told tt

pub returns-clause-told : goal.returns-clause-told
returns-clause-told g c = λ m told out.
    inner_refused m c.in-Err.fault (g.F.Folder.names c.make_inner.new.folder) out (c.make_inner.ensures.names ∙ told) (c.in-Err.ensures.told m told)

pub returns-in-Ok-clause-told : goal.returns-in-Ok-clause-told
returns-in-Ok-clause-told g c = λ m told out.
    let r = c.publish_document-published.result in
    let names = g.F.Folder.names c.publish_document-published.new.folder in
    let document = (built_by c.in-Ok.made).document in
    inner_made m (built_by c.in-Ok.made) r names out (c.in-Ok.ensures.told m told)
    (subst (λ (o : Options). Goes (all_done (Publishes o.out (spelled document) ∷ [])) m r names out out) (c.options.view_is ∙ c.in_ok-options.ensures.options)
    (c.publish_document-published.ensures.told m (c.make_inner.ensures.names ∙ told) out))

pub returns-in-Ok-clause-faults : goal.returns-in-Ok-clause-faults
returns-in-Ok-clause-faults g c = where_failed IsOfFolder (IsOfMaking inner_name) c.publish_document-published.result (folder_making inner_name) c.publish_document-published.ensures.faults
