use Rattle.std.proofs.Common.{◌≡◌, ◌∙◌, ◌⊎◌, ap, refl, sym, subst, List, Result, Ok, Err, Some, option_map}
use Rattle.std.specs.Prelude.{IfErr}
use Rattle.std.proofs.lemmas.Option.{slice_get_within}
use Rattle.outside.specs.Names.{extension_of}
use Rattle.geotransform.specs.declared.types.Size.{Size}
use Rattle.catalog.specs.Outcomes as outcomes
use Rattle.catalog.specs.Drivers.{Dataset}
use Rattle.catalog.specs.Walk.{walked}
use Rattle.catalog.proofs.Found.{found}
use Rattle.translate_plan.specs.Options.{Options, IsOptions, driver_for}
use Rattle.translate_plan.specs.Plan.{plan_of}
use Rattle.strip_copies.proofs.Sources.{sources_known}
use Rattle.error_lines.specs.declared.faults.Fault.{Fault}
use Rattle.error_lines.specs.Faults.{fault_of}
use Rattle.error_lines.specs.Steps.{all_done, Goes}
use Rattle.output_copies.specs.Copying.{spoken}
use Rattle.output_copies.specs.Steps.{translation_steps, translation_text}
use Rattle.output_copies.proofs.Changes.{kept_all, kept_behind}
use Rattle.output_copies.proofs.Ends.{err_is}
use Rattle.output_copies.proofs.Puts.{puts_none}
use Rattle.translation_runs.specs.Ends.{MayEnd, RefusesName}
use Rattle.translation_runs.specs.Judged.{translation_run}
use Rattle.translation_runs.specs.Published.{names_written}
use Rattle.translation_runs.proofs.Ended.{behind_walk, has_changed, plan_may, plan_recognizes, reading_recognizes, readings_may, readings_refuse, same_may, same_recognizes, walk_may, walk_refuses}
use Rattle.translation_runs.proofs.Reached.{told_of}
use Rattle.translation_runs.proofs.Translated.{walked_so, plan_is, planned_so, planned_driver, walk_goes, plan_goes, same_goes, done_goes, goes_unchanged}
use Rattle.translation_runs.proofs.translating.put_translation.Goals as goal

-- a size of which nothing was told yet
no_size : Size
no_size = record { w = 0; h = 0 }

pub head-requires : goal.head-requires
head-requires g c =
    let d = found c.open_all.new.cat c.args.src.now c.in_ok-id.id c.in_ok-id.ensures.number in
    record { known = slice_get_within c.open_all.new.cat c.in_ok-id.id d.dataset d.at }

pub returns-in_err-id-clause-told : goal.returns-in_err-id-clause-told
returns-in_err-id-clause-told g c = λ m is.
    let f = c.in_err-id.field-0.0 in
    let walk = subst (λ (cat : List Dataset). outcomes.IsOutside f ⊎ (walked m c.args.way.verify cat c.args.src.now ≡ Err f)) c.new-cat.ensures.empty (c.in_err-id.ensures.told m is) in
    subst (λ (r : Result (Unit {0}) Fault). Goes (translation_run m c.args.way.verify c.args.src.now c.args.options.now c.args.way.quiet) m r (g.F.Folder.names c.open_all.new.folder) (g.O.Sink.got c.args.out.now) (g.O.Sink.got c.args.out.now))
    (sym (err_is c.from_residual.result (fault_of f) c.from_residual.ensures))
    (walk_goes m c.args.way.verify c.args.src.now c.args.options.now c.args.way.quiet f (g.F.Folder.names c.open_all.new.folder) (g.O.Sink.got c.args.out.now) (c.in_err-id.ensures.names ∙ is) walk)

pub returns-in_err-id-clause-may_end : goal.returns-in_err-id-clause-may_end
returns-in_err-id-clause-may_end g c =
    let f = c.in_err-id.field-0.0 in
    subst (λ (r : Result (Unit {0}) Fault). IfErr r (MayEnd c.args.options.now)) (sym (err_is c.from_residual.result (fault_of f) c.from_residual.ensures))
    (walk_may c.args.options.now f c.in_err-id.ensures.unknown.only c.in_err-id.ensures.own)

pub returns-in_err-id-clause-unknown : goal.returns-in_err-id-clause-unknown
returns-in_err-id-clause-unknown g c =
    let f = c.in_err-id.field-0.0 in
    subst (λ (r : Result (Unit {0}) Fault). RefusesName c.args.src.now r) (sym (err_is c.from_residual.result (fault_of f) c.from_residual.ensures)) (walk_refuses c.args.src.now f c.in_err-id.ensures.unknown)

pub returns-in_err-plan-clause-told : goal.returns-in_err-plan-clause-told
returns-in_err-plan-clause-told g c = λ m is.
    let f = c.in_err-plan.field-0.0 in
    let w = walked_so m c.args.way.verify c.args.src.now c.new-cat.result c.open_all.new.cat c.in_ok-id.id c.head.result.now c.new-cat.ensures.empty (c.in_ok-id.ensures.told m is) (c.in_ok-id.ensures.walked m is) c.in_ok-id.ensures.number c.head.ensures.head in
    let plan = planned_so c.args.options.now c.head.result.now w.dataset.head c.plan.result (Err f) w.headed c.plan.ensures.plan c.in_err-plan.ensures in
    subst (λ (r : Result (Unit {0}) Fault). Goes (translation_run m c.args.way.verify c.args.src.now c.args.options.now c.args.way.quiet) m r (g.F.Folder.names c.open_all.new.folder) (g.O.Sink.got c.args.out.now) (g.O.Sink.got c.args.out.now))
    (sym (err_is c.from_residual-in_err-plan.result f c.from_residual-in_err-plan.ensures))
    (plan_goes m c.args.way.verify c.args.src.now c.args.options.now c.args.way.quiet c.open_all.new.cat w.dataset w.walk w.read f (g.F.Folder.names c.open_all.new.folder) (g.O.Sink.got c.args.out.now) (c.in_ok-id.ensures.names ∙ is) plan)

pub returns-in_err-plan-clause-may_end : goal.returns-in_err-plan-clause-may_end
returns-in_err-plan-clause-may_end g c =
    let f = c.in_err-plan.field-0.0 in
    subst (λ (r : Result (Unit {0}) Fault). IfErr r (MayEnd c.args.options.now)) (sym (err_is c.from_residual-in_err-plan.result f c.from_residual-in_err-plan.ensures))
    (plan_may c.args.options.now c.plan.result f c.in_err-plan.ensures)

pub returns-in_err-plan-clause-unknown : goal.returns-in_err-plan-clause-unknown
returns-in_err-plan-clause-unknown g c =
    let f = c.in_err-plan.field-0.0 in
    let is = err_is c.from_residual-in_err-plan.result f c.from_residual-in_err-plan.ensures in
    behind_walk c.args.src.now c.in_ok-id.id c.from_residual-in_err-plan.result c.in_ok-id.ensures.unknown (λ n so. plan_recognizes c.plan.result f n c.in_err-plan.ensures cc)

pub returns-in_err-unless_read-clause-told : goal.returns-in_err-unless_read-clause-told
returns-in_err-unless_read-clause-told g c = λ m is.
    let f = c.in_err-unless_read.field-0.0 in
    let w = walked_so m c.args.way.verify c.args.src.now c.new-cat.result c.open_all.new.cat c.in_ok-id.id c.head.result.now c.new-cat.ensures.empty (c.in_ok-id.ensures.told m is) (c.in_ok-id.ensures.walked m is) c.in_ok-id.ensures.number c.head.ensures.head in
    let plan = planned_so c.args.options.now c.head.result.now w.dataset.head c.plan.result (Ok c.in_ok-plan.plan) w.headed c.plan.ensures.plan c.in_ok-plan.ensures in
    subst (λ (r : Result (Unit {0}) Fault). Goes (translation_run m c.args.way.verify c.args.src.now c.args.options.now c.args.way.quiet) m r (g.F.Folder.names c.open_all.new.folder) (g.O.Sink.got c.args.out.now) (g.O.Sink.got c.args.out.now))
    (sym (err_is c.from_residual-in_err-unless_read.result f c.from_residual-in_err-unless_read.ensures))
    (same_goes m c.args.way.verify c.args.src.now c.args.options.now c.args.way.quiet c.open_all.new.cat w.dataset w.walk w.read c.in_ok-plan.plan plan f (g.F.Folder.names c.open_all.new.folder) (g.O.Sink.got c.args.out.now) (c.in_ok-id.ensures.names ∙ is) c.in_err-unless_read.ensures.gives)

pub returns-in_err-unless_read-clause-may_end : goal.returns-in_err-unless_read-clause-may_end
returns-in_err-unless_read-clause-may_end g c =
    let f = c.in_err-unless_read.field-0.0 in
    subst (λ (r : Result (Unit {0}) Fault). IfErr r (MayEnd c.args.options.now)) (sym (err_is c.from_residual-in_err-unless_read.result f c.from_residual-in_err-unless_read.ensures))
    (same_may c.args.options.now c.open_all.new.cat f c.in_err-unless_read.ensures.gives)

pub returns-in_err-unless_read-clause-unknown : goal.returns-in_err-unless_read-clause-unknown
returns-in_err-unless_read-clause-unknown g c =
    let f = c.in_err-unless_read.field-0.0 in
    let is = err_is c.from_residual-in_err-unless_read.result f c.from_residual-in_err-unless_read.ensures in
    behind_walk c.args.src.now c.in_ok-id.id c.from_residual-in_err-unless_read.result c.in_ok-id.ensures.unknown (λ n so. same_recognizes c.open_all.new.cat (names_written c.args.options.now) f n c.in_err-unless_read.ensures.gives cc)

pub write_output-requires-clause-translation : goal.write_output-requires-clause-translation
write_output-requires-clause-translation g c κs within =
    let d = found c.open_all.new.cat c.args.src.now c.in_ok-id.id c.in_ok-id.ensures.number in
    let head : c.head.result.now ≡ d.dataset.head = sym (told_of (λ (d : Dataset). d.head) c.open_all.new.cat c.in_ok-id.id d.dataset c.head.result.now d.at c.head.ensures.head) in
    let plan = plan_is c.plan.result c.in_ok-plan.plan (sym c.in_ok-plan.ensures) in
    let options : IsOptions c.args.options.now = subst IsOptions c.options.view_is c.options.invariant in
    record {
      dataset = d.dataset;
      at = d.at;
      sources = sources_known c.args.options.now d.dataset.head c.in_ok-plan.plan options (ap (plan_of c.args.options.now) (sym head) ∙ sym c.plan.ensures.plan ∙ plan);
    }

pub write_output-requires-clause-extension : goal.write_output-requires-clause-extension
write_output-requires-clause-extension g c κs within =
    let plan = plan_is c.plan.result c.in_ok-plan.plan (sym c.in_ok-plan.ensures) in
    ap (λ (o : Options). option_map driver_for (extension_of o.out)) c.options.view_is
    ∙ c.requires.named
    ∙ ap Some (sym (planned_driver c.args.options.now c.head.result.now c.in_ok-plan.plan (sym c.plan.ensures.plan ∙ plan)))

pub returns-clause-told : goal.returns-clause-told
returns-clause-told g c = λ m is.
    let w = walked_so m c.args.way.verify c.args.src.now c.new-cat.result c.open_all.new.cat c.in_ok-id.id c.head.result.now c.new-cat.ensures.empty (c.in_ok-id.ensures.told m is) (c.in_ok-id.ensures.walked m is) c.in_ok-id.ensures.number c.head.ensures.head in
    let plan = planned_so c.args.options.now c.head.result.now w.dataset.head c.plan.result (Ok c.in_ok-plan.plan) w.headed c.plan.ensures.plan c.in_ok-plan.ensures in
    let goes = c.write_output.ensures.told m (c.in_ok-id.ensures.names ∙ is) w.dataset w.at in
    done_goes m c.args.way.verify c.args.src.now c.args.options.now c.args.way.quiet c.open_all.new.cat w.dataset w.walk w.read c.in_ok-plan.plan plan c.write_output.result (g.F.Folder.names c.write_output.new.folder) (g.O.Sink.got c.args.out.now) (g.O.Sink.got c.write_output.new.out) c.in_ok-unless_read.ensures.gives
    (subst (λ (o : Options). Goes (all_done (translation_steps c.args.way.quiet m w.dataset c.in_ok-plan.plan o.out)) m c.write_output.result (g.F.Folder.names c.write_output.new.folder) (g.O.Sink.got c.args.out.now) (g.O.Sink.got c.write_output.new.out)) c.options.view_is goes)

pub returns-clause-refused : goal.returns-clause-refused
returns-clause-refused g c = readings_refuse c.write_output.result _ c.write_output.ensures.faults

pub returns-clause-may_end : goal.returns-clause-may_end
returns-clause-may_end g c = readings_may c.args.options.now c.write_output.result c.write_output.ensures.faults

pub returns-clause-unknown : goal.returns-clause-unknown
returns-clause-unknown g c = behind_walk c.args.src.now c.in_ok-id.id c.write_output.result c.in_ok-id.ensures.unknown (λ n so. reading_recognizes c.write_output.result n c.write_output.ensures.faults so)

pub returns-clause-changed : goal.returns-clause-changed
returns-clause-changed g c =
    let d = found c.open_all.new.cat c.args.src.now c.in_ok-id.id c.in_ok-id.ensures.number in
    has_changed (g.F.Folder.names c.args.folder.now) c.write_output.result c.write_output.ensures.differs (λ m is.
    goes_unchanged _ m c.write_output.result _ _ _ refl (c.write_output.ensures.told m (c.in_ok-id.ensures.names ∙ is) d.dataset d.at))

pub returns-in_err-id-clause-put : goal.returns-in_err-id-clause-put
returns-in_err-id-clause-put g c = (no_size, puts_none (spoken c.args.way.quiet (translation_text no_size)) (fault_of c.in_err-id.field-0.0) c.from_residual.result (g.O.Sink.got c.args.out.now) c.from_residual.ensures)

pub returns-in_err-id-clause-kept : goal.returns-in_err-id-clause-kept
returns-in_err-id-clause-kept g c = kept_all c.from_residual.result (g.F.Folder.names c.args.folder.now) (g.F.Folder.names c.open_all.new.folder) c.in_err-id.ensures.names

pub returns-in_err-plan-clause-put : goal.returns-in_err-plan-clause-put
returns-in_err-plan-clause-put g c = (no_size, puts_none (spoken c.args.way.quiet (translation_text no_size)) c.in_err-plan.field-0.0 c.from_residual-in_err-plan.result (g.O.Sink.got c.args.out.now) c.from_residual-in_err-plan.ensures)

pub returns-in_err-plan-clause-kept : goal.returns-in_err-plan-clause-kept
returns-in_err-plan-clause-kept g c = kept_all c.from_residual-in_err-plan.result (g.F.Folder.names c.args.folder.now) (g.F.Folder.names c.open_all.new.folder) c.in_ok-id.ensures.names

pub returns-in_err-unless_read-clause-put : goal.returns-in_err-unless_read-clause-put
returns-in_err-unless_read-clause-put g c = (no_size, puts_none (spoken c.args.way.quiet (translation_text no_size)) c.in_err-unless_read.field-0.0 c.from_residual-in_err-unless_read.result (g.O.Sink.got c.args.out.now) c.from_residual-in_err-unless_read.ensures)

pub returns-in_err-unless_read-clause-kept : goal.returns-in_err-unless_read-clause-kept
returns-in_err-unless_read-clause-kept g c = kept_all c.from_residual-in_err-unless_read.result (g.F.Folder.names c.args.folder.now) (g.F.Folder.names c.open_all.new.folder) c.in_ok-id.ensures.names

pub returns-clause-put : goal.returns-clause-put
returns-clause-put g c =
    let d = found c.open_all.new.cat c.args.src.now c.in_ok-id.id c.in_ok-id.ensures.number in
    (d.dataset.head.size, c.write_output.ensures.put d.dataset d.at)

pub returns-clause-kept : goal.returns-clause-kept
returns-clause-kept g c = kept_behind c.write_output.result (g.F.Folder.names c.args.folder.now) (g.F.Folder.names c.open_all.new.folder) (g.F.Folder.names c.write_output.new.folder) c.in_ok-id.ensures.names c.write_output.ensures.kept
