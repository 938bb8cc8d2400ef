use Rattle.std.proofs.Common.{arith, sym, subst, Result, Ok, Err}
use Rattle.std.specs.Prelude.{IfErr}
use Rattle.error_lines.specs.declared.faults.Fault.{Fault}
use Rattle.error_lines.specs.Faults.{fault_of, report_fault_of}
use Rattle.command_words.specs.declared.command.Job.TheVariants.{Info}
use Rattle.translation_runs.specs.Ends.{ended}
use Rattle.gdal_cli.specs.Run.{MayEnd, IsRefusal}
use Rattle.gdal_cli.specs.Jobs.{Ends}
use Rattle.gdal_cli.specs.Work.{info_judged, carried_out}
use Rattle.gdal_cli.proofs.Causes.{walk_may, report_may, report_refuses}
use Rattle.gdal_cli.proofs.Ended.{err_is, outside_report, info_refused, info_put}
use Rattle.gdal_cli.proofs.jobs.put_info.Goals as goal

pub returns-in_err-head-clause-told : goal.returns-in_err-head-clause-told
returns-in_err-head-clause-told g c = λ m is lines.
    subst (λ (r : Result (Unit {0}) Fault). Ends (carried_out (info_judged m c.args.verify c.args.name.now) m lines) r (g.O.Sink.got c.args.out.now) (g.O.Sink.got c.args.out.now))
    (sym (err_is c.from_residual.result (fault_of c.in_err-head.field-0.0) c.from_residual.ensures))
    (info_refused m c.args.name.now c.args.verify lines c.in_err-head.field-0.0 _ (c.in_err-head.ensures.told m is))

pub returns-in_err-head-clause-may_end : goal.returns-in_err-head-clause-may_end
returns-in_err-head-clause-may_end g c =
    subst (λ (r : Result (Unit {0}) Fault). IfErr r (MayEnd (Info c.args.name.now)))
    (sym (err_is c.from_residual.result (fault_of c.in_err-head.field-0.0) c.from_residual.ensures))
    (walk_may (Info c.args.name.now) c.in_err-head.field-0.0)

pub returns-in_err-write_info-clause-told : goal.returns-in_err-write_info-clause-told
returns-in_err-write_info-clause-told g c = λ m is lines.
    let f = report_fault_of c.in_err-write_info.field-0.0 in
    subst (λ (r : Result (Unit {0}) Fault). Ends (carried_out (info_judged m c.args.verify c.args.name.now) m lines) r (g.O.Sink.got c.args.out.now) (g.O.Sink.got c.write_info.new.sink))
    (sym (err_is c.from_residual-in_err-write_info.result f c.from_residual-in_err-write_info.ensures))
    (info_put m c.args.name.now c.args.verify lines c.in_ok-head.head (Err f) _ _ (c.in_ok-head.ensures.told m is) (outside_report c.in_err-write_info.field-0.0, c.in_err-write_info.ensures.err))

pub returns-in_err-write_info-clause-refused : goal.returns-in_err-write_info-clause-refused
returns-in_err-write_info-clause-refused g c = λ refusal.
    absurd (report_refuses c.in_err-write_info.field-0.0
    (subst (λ (r : Result (Unit {0}) Fault). IsRefusal (ended r)) (err_is c.from_residual-in_err-write_info.result (report_fault_of c.in_err-write_info.field-0.0) c.from_residual-in_err-write_info.ensures) refusal))

pub returns-in_err-write_info-clause-may_end : goal.returns-in_err-write_info-clause-may_end
returns-in_err-write_info-clause-may_end g c =
    subst (λ (r : Result (Unit {0}) Fault). IfErr r (MayEnd (Info c.args.name.now)))
    (sym (err_is c.from_residual-in_err-write_info.result (report_fault_of c.in_err-write_info.field-0.0) c.from_residual-in_err-write_info.ensures))
    (report_may (Info c.args.name.now) c.in_err-write_info.field-0.0)

pub returns-clause-told : goal.returns-clause-told
returns-clause-told g c = λ m is lines.
    info_put m c.args.name.now c.args.verify lines c.in_ok-head.head (Ok tt) _ _ (c.in_ok-head.ensures.told m is) c.in_ok-write_info.ensures.ok

pub returns-clause-refused : goal.returns-clause-refused
returns-clause-refused g c = λ refusal. let no : ⊥ = omega (arith, refusal.refused) in absurd no
