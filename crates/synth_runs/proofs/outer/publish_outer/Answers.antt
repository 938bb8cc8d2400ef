use Rattle.std.proofs.Common.{subst, [], ◌∷◌, ℕ, List}
use Rattle.vrt_writing.specs.Spelled.{spelled}
use Rattle.vrt_profile.specs.Values.{DocumentValue}
use Rattle.error_lines.specs.declared.faults.Fault.TheVariants.{Memory}
use Rattle.error_lines.specs.Steps.{Publishes, all_done, Goes}
use Rattle.synthetic_rasters.specs.Outer.{outer_document}
use Rattle.output_copies.proofs.Ends.{err_is}
use Rattle.synth_runs.specs.Runs.{outer_run}
use Rattle.synth_runs.proofs.Parts.{none_goes}
use Rattle.synth_runs.proofs.outer.publish_outer.Goals as goal

pub returns-in_err-name-clause-told : goal.returns-in_err-name-clause-told
returns-in_err-name-clause-told g c = λ m told out.
    none_goes (outer_run c.args.side) m c.from_residual.result Memory (g.F.Folder.names c.args.folder.now) out (err_is c.from_residual.result Memory c.from_residual.ensures) told tt

pub returns-in_err-document-clause-told : goal.returns-in_err-document-clause-told
returns-in_err-document-clause-told g c = λ m told out.
    none_goes (outer_run c.args.side) m c.from_residual-in_err-document.result Memory (g.F.Folder.names c.args.folder.now) out (err_is c.from_residual-in_err-document.result Memory c.from_residual-in_err-document.ensures) told tt

pub returns-clause-told : goal.returns-clause-told
returns-clause-told g c = λ m told out.
    let r = c.publish_document.result in
    let names = g.F.Folder.names c.publish_document.new.folder in
    subst (λ (n : List ℕ). Goes (all_done (Publishes n (spelled (outer_document c.args.side)) ∷ [])) m r names out out) c.in_ok-name.ensures.name
    (subst (λ (d : DocumentValue). Goes (all_done (Publishes c.in_ok-name.name (spelled d) ∷ [])) m r names out out) c.in_ok-document.ensures.document
    (c.publish_document.ensures.told m told out))
