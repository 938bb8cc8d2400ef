use Rattle.std.proofs.Common.{◌≡◌, ◌∙◌, ◌⊎◌, ◌≤◌, ap, map, string_bytes, sym, subst, ℕ, Option, Some}
use Rattle.std.specs.Prelude.{IfOk, IfSome}
use Rattle.error_lines.specs.declared.faults.Fault.{Fault}
use Rattle.error_lines.specs.declared.faults.Fault.TheVariants.{InputFault, Memory}
use Rattle.error_lines.specs.Faults.{IsOutside, status_of}
use Rattle.gdal_cli.specs.Run.{Answers, AreTold, MayEnd, IsRefusal, TellsFault, words_make_rasters, words_warn}
use Rattle.gdal_cli.specs.Jobs.{MayWarn}
use Rattle.command_words.specs.Words.{words_of}
use Rattle.gdal_cli.specs.Work.{run_of}
use Rattle.gdal_cli.proofs.Causes.{command_may}
use Rattle.translation_runs.proofs.Ended.{refused_so}
use Rattle.gdal_cli.proofs.Outcomes.{answered, completed, ended_outside, unless_made}
use Rattle.gdal_cli.proofs.Warning.{early_warned, fault_behind, goes_of, told_behind, whole_warned}
use Rattle.gdal_cli.proofs.running.run.Goals as goal

pub returns-clause-answer : goal.returns-clause-answer
returns-clause-answer g c = λ low m told i fed.
    let run = run_of (map string_bytes c.args.words.now) m i in
    let fault = c.tell.ensures.fault ∙ c.ended-fault.ensures in
    let status = c.tell.ensures.status ∙ ap status_of c.ended-fault.ensures in
    let few = subst (λ (n : ℕ). n ≤ 1) status low in
    subst (λ (f : Option Fault). Answers run m f (g.F.Folder.names c.perform.new.folder) (g.O.Sink.got c.args.out.now) (g.O.Sink.got c.perform.new.out)) (sym fault)
    (answered run c.perform.result m _ _ _ few (goes_of run m c.perform.result _ _ _ _ (c.perform.ensures.told m told i fed)))

pub returns-clause-early_end : goal.returns-clause-early_end
returns-clause-early_end g c = λ high m told i fed.
    let words = map string_bytes c.args.words.now in
    let run = run_of words m i in
    let status = c.tell.ensures.status ∙ ap status_of c.ended-fault.ensures in
    let many = subst (λ (n : ℕ). 2 ≤ n) status high in
    let early = early_warned run m c.perform.result _ _ _ _ many (c.perform.ensures.told m told i fed) in
    let said = told_behind early.0 c.ended-fault.result c.perform.new.failed _ _ _ _ _ _ early.3 c.tell.ensures.whole c.tell.ensures.part (λ is. ap g.E.Sink.got (c.tell.ensures.untouched is)) c.tell.ensures.later in
    (early.0, early.1, early.2, subst (λ (f : Option Fault). AreTold early.0 f (g.E.Sink.faults c.args.err.now) (g.E.Sink.faults c.tell.new.err) (g.E.Sink.got c.args.err.now) (g.E.Sink.got c.tell.new.err)) (sym c.tell.ensures.fault) said)

pub returns-clause-made : goal.returns-clause-made
returns-clause-made g c = λ rasters m told.
    subst (λ (f : Option Fault). IfSome f IsOutside) (sym (c.tell.ensures.fault ∙ c.ended-fault.ensures))
    (ended_outside c.perform.result (c.perform.ensures.made rasters m told))

pub returns-clause-refused : goal.returns-clause-refused
returns-clause-refused g c = λ told refusal.
    let fault = c.tell.ensures.fault ∙ c.ended-fault.ensures in
    unless_made (words_make_rasters (words_of (map string_bytes c.args.words.now))) (g.F.Folder.names c.args.folder.now) c.perform.result told c.perform.ensures.made (subst IsRefusal fault refusal)
    (λ others. c.perform.ensures.refused others (subst IsRefusal fault refusal))

pub returns-clause-may_end : goal.returns-clause-may_end
returns-clause-may_end g c =
    let words = words_of (map string_bytes c.args.words.now) in
    subst (λ (f : Option Fault). IfOk words (λ command. IfSome f (MayEnd command.job))) (sym (c.tell.ensures.fault ∙ c.ended-fault.ensures))
    (command_may words c.perform.result c.perform.ensures.may_end)

pub returns-clause-input_stopped : goal.returns-clause-input_stopped
returns-clause-input_stopped g c = λ so m told i left.
    let fault = c.tell.ensures.fault ∙ c.ended-fault.ensures in
    c.perform.ensures.stopped (refused_so c.perform.result InputFault (sym fault ∙ so)) m told i left

pub returns-clause-complete : goal.returns-clause-complete
returns-clause-complete g c = λ m told i fed calm quiet still.
    let run = run_of (map string_bytes c.args.words.now) m i in
    let fault = c.tell.ensures.fault ∙ c.ended-fault.ensures in
    subst (λ (f : Option Fault). (f ≡ run.fault) ⊎ (f ≡ Some Memory)) (sym fault)
    (completed run c.perform.result m _ _ _ _ _ _ _ _ _ c.perform.ensures.cause c.perform.ensures.input_cause calm quiet still (goes_of run m c.perform.result _ _ _ _ (c.perform.ensures.told m told i fed)))

pub returns-clause-errors : goal.returns-clause-errors
returns-clause-errors g c = λ low m told i fed.
    let run = run_of (map string_bytes c.args.words.now) m i in
    let status = c.tell.ensures.status ∙ ap status_of c.ended-fault.ensures in
    let few = subst (λ (n : ℕ). n ≤ 1) status low in
    let whole = whole_warned run m c.perform.result _ _ _ _ few (c.perform.ensures.told m told i fed) in
    let said = told_behind run.steps c.ended-fault.result c.perform.new.failed _ _ _ _ _ _ whole c.tell.ensures.whole c.tell.ensures.part (λ is. ap g.E.Sink.got (c.tell.ensures.untouched is)) c.tell.ensures.later in
    subst (λ (f : Option Fault). AreTold run.steps f (g.E.Sink.faults c.args.err.now) (g.E.Sink.faults c.tell.new.err) (g.E.Sink.got c.args.err.now) (g.E.Sink.got c.tell.new.err)) (sym c.tell.ensures.fault) said

pub returns-clause-fault_told : goal.returns-clause-fault_told
returns-clause-fault_told g c =
    let able = words_warn (words_of (map string_bytes c.args.words.now)) in
    let may = subst (λ (f : Option Fault). MayWarn able f c.perform.new.failed (g.E.Sink.faults c.args.err.now) (g.E.Sink.faults c.perform.new.err) (g.E.Sink.got c.args.err.now) (g.E.Sink.got c.perform.new.err)) (sym c.ended-fault.ensures) c.perform.ensures.warned in
    let said = fault_behind able c.perform.new.failed c.ended-fault.result _ _ _ _ _ _ may c.tell.ensures.whole c.tell.ensures.part (λ is. ap g.E.Sink.got (c.tell.ensures.untouched is)) c.tell.ensures.later in
    subst (λ (f : Option Fault). TellsFault able f (g.E.Sink.faults c.args.err.now) (g.E.Sink.faults c.tell.new.err) (g.E.Sink.got c.args.err.now) (g.E.Sink.got c.tell.new.err)) (sym c.tell.ensures.fault) said
