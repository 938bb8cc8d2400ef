use Rattle.std.proofs.Common.{◌∙◌, ap, subst, sym, List}
use Rattle.strip_copies.specs.declared.translation.Translation.{Translation}
use Rattle.error_lines.specs.Faults.{IsOutside}
use Rattle.error_lines.specs.Steps.{Step, all_done, Goes}
use Rattle.output_copies.specs.Copying.{TellsChange}
use Rattle.output_copies.proofs.Changes.{kept_outside, outside_tells, where_failed}
use Rattle.output_copies.proofs.Written.{document_middle, samples_middle}
use Rattle.output_copies.proofs.output.write_planned.Goals as goal

pub returns-in-Vrt-clause-goes : goal.returns-in-Vrt-clause-goes
returns-in-Vrt-clause-goes g c = λ m d told at.
    let p = c.args.translation.now.plan in
    subst (λ (s : List Step). Goes (all_done s) m c.write_document.result (g.F.Folder.names c.write_document.new.folder) (g.O.Sink.got c.args.out.now) (g.O.Sink.got c.write_document.new.out))
    (document_middle m d p c.args.writing.now.name.now c.args.writing.now.quiet (ap (λ (t : Translation). t.plan.driver) (sym c.translation.view_is) ∙ c.in-Vrt.is))
    (c.write_document.ensures.goes m d told at)

pub returns-clause-goes : goal.returns-clause-goes
returns-clause-goes g c = λ m d told at.
    let p = c.args.translation.now.plan in
    subst (λ (s : List Step). Goes (all_done s) m c.write_files.result (g.F.Folder.names c.write_files.new.folder) (g.O.Sink.got c.args.out.now) (g.O.Sink.got c.write_files.new.out))
    (samples_middle m d p c.args.writing.now.name.now c.args.writing.now.quiet (λ mosaic. c.in_default.not-Vrt (ap (λ (t : Translation). t.plan.driver) c.translation.view_is ∙ mosaic)))
    (c.write_files.ensures.goes m d told at)

pub returns-in-Vrt-clause-changed : goal.returns-in-Vrt-clause-changed
returns-in-Vrt-clause-changed g c =
    let cat = c.args.translation.now.cat in
    where_failed IsOutside (TellsChange cat) c.write_document.result (outside_tells cat) c.write_document.ensures.outside

pub returns-in-Vrt-clause-kept : goal.returns-in-Vrt-clause-kept
returns-in-Vrt-clause-kept g c = kept_outside c.write_document.result _ c.write_document.ensures.outside

pub returns-in-Some-clause-goes : goal.returns-in-Some-clause-goes
returns-in-Some-clause-goes g c = λ m d told at.
    let p = c.args.translation.now.plan in
    subst (λ (s : List Step). Goes (all_done s) m c.write_packed.result (g.F.Folder.names c.write_packed.new.folder) (g.O.Sink.got c.args.out.now) (g.O.Sink.got c.write_packed.new.out))
    (samples_middle m d p c.args.writing.now.name.now c.args.writing.now.quiet (λ mosaic. c.in_default.not-Vrt (ap (λ (t : Translation). t.plan.driver) c.translation.view_is ∙ mosaic)))
    (c.write_packed.ensures.goes m d told at)
