use Rattle.std.proofs.Common.{refl, sym, subst, false, true, ℕ, List}
use Rattle.std.specs.Prelude.{IfErr}
use Rattle.translate_plan.specs.Options.{Options}
use Rattle.error_lines.specs.declared.faults.Fault.TheVariants.{Memory}
use Rattle.error_lines.specs.Steps.{Goes}
use Rattle.output_copies.proofs.Ends.{err_is}
use Rattle.translation_runs.specs.Judged.{translation_run}
use Rattle.translation_runs.specs.Published.{IsNamed}
use Rattle.translation_runs.specs.Ends as translation
use Rattle.synthetic_rasters.specs.Names.{outer_name}
use Rattle.synth_runs.specs.Ends.{MayEnd}
use Rattle.synth_runs.specs.Runs.{output_options, output_run}
use Rattle.synth_runs.proofs.Ending.{translation_may, where_failed}
use Rattle.synth_runs.proofs.Parts.{none_goes, output_named}
use Rattle.synth_runs.proofs.copying.put_output.Goals as goal

pub put_translation-requires-clause-named : goal.put_translation-requires-clause-named
put_translation-requires-clause-named g c κs within = subst IsNamed (sym c.in_ok-options.ensures.options) output_named

pub returns-in_err-name-clause-told : goal.returns-in_err-name-clause-told
returns-in_err-name-clause-told g c = λ m told.
    none_goes (output_run m) m c.from_residual.result Memory (g.F.Folder.names c.args.folder.now) (g.O.Sink.got c.args.out.now) (err_is c.from_residual.result Memory c.from_residual.ensures) told tt

pub returns-in_err-options-clause-told : goal.returns-in_err-options-clause-told
returns-in_err-options-clause-told g c = λ m told.
    none_goes (output_run m) m c.from_residual-in_err-options.result Memory (g.F.Folder.names c.args.folder.now) (g.O.Sink.got c.args.out.now) (err_is c.from_residual-in_err-options.result Memory c.from_residual-in_err-options.ensures) told tt

pub returns-clause-told : goal.returns-clause-told
returns-clause-told g c = λ m told.
    let r = c.put_translation.result in
    let names = g.F.Folder.names c.put_translation.new.folder in
    let before = g.O.Sink.got c.args.out.now in
    let after = g.O.Sink.got c.put_translation.new.out in
    subst (λ (o : Options). Goes (translation_run m false outer_name o true) m r names before after) c.in_ok-options.ensures.options
    (subst (λ (n : List ℕ). Goes (translation_run m false n c.in_ok-options.options true) m r names before after) c.in_ok-name.ensures.name
    (c.put_translation.ensures.told m told))

pub returns-clause-may_end : goal.returns-clause-may_end
returns-clause-may_end g c =
    where_failed (translation.MayEnd output_options) MayEnd c.put_translation.result translation_may
    (subst (λ (o : Options). IfErr c.put_translation.result (translation.MayEnd o)) c.in_ok-options.ensures.options c.put_translation.ensures.may_end)

pub returns-clause-quiet : goal.returns-clause-quiet
returns-clause-quiet g c = c.put_translation.ensures.quiet refl
