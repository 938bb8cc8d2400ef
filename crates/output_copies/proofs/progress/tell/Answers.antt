use Rattle.std.proofs.Common.{◌≡◌, ◌-◌, ◌≤◌, ap, sym, subst, arith, ℕ, List, take, drop, Result}
use Rattle.error_lines.specs.declared.faults.Fault.{Fault}
use Rattle.error_lines.specs.declared.faults.Fault.TheVariants.{OutFault}
use Rattle.error_lines.specs.Progress.{progress}
use Rattle.output_copies.specs.Filled.{Tells}
use Rattle.output_copies.proofs.Changes.{handed_on}
use Rattle.output_copies.proofs.Ends.{ends_ok, ends_so, err_is}
use Rattle.output_copies.proofs.Told.{told_more, told_part}
use Rattle.output_copies.proofs.progress.tell.Goals as goal

pub returns-in_err-put_text-clause-told : goal.returns-in_err-put_text-clause-told
returns-in_err-put_text-clause-told g c = λ before first.
    let next = c.max-next.result in
    let order : c.args.told ≤ next = omega arith in
    let part : take (next - c.args.told) (drop c.args.told c.progress_text-text.result.now) ≡ take (next - c.args.told) (drop c.args.told progress) = ap (λ (t : List ℕ). take (next - c.args.told) (drop c.args.told t)) c.progress_text-text.ensures.text in
    subst (λ (r : Result ℕ Fault). Tells c.args.quiet r before (g.O.Sink.got c.put_text.new.out)) (sym (err_is c.from_residual.result c.in_err-put_text.field-0.0 c.from_residual.ensures))
    (told_part c.args.quiet progress _ c.args.told next before (g.O.Sink.got c.args.out.now) (g.O.Sink.got c.put_text.new.out) order part first c.in_err-put_text.ensures.err)

pub returns-in_err-put_text-clause-faults : goal.returns-in_err-put_text-clause-faults
returns-in_err-put_text-clause-faults g c = handed_on (λ (f : Fault). f ≡ OutFault) c.in_err-put_text.field-0.0 c.from_residual.result c.from_residual.ensures c.in_err-put_text.ensures.faults

pub returns-in_err-put_text-clause-ends : goal.returns-in_err-put_text-clause-ends
returns-in_err-put_text-clause-ends g c = λ names faults.
    ends_so names faults faults _ _ c.in_err-put_text.field-0.0 c.from_residual.result (err_is c.from_residual.result c.in_err-put_text.field-0.0 c.from_residual.ensures) (c.in_err-put_text.ensures.ends names faults)

pub returns-clause-told : goal.returns-clause-told
returns-clause-told g c = λ before first.
    let next = c.max-next.result in
    let order : c.args.told ≤ next = omega arith in
    let part : take (next - c.args.told) (drop c.args.told c.progress_text-text.result.now) ≡ take (next - c.args.told) (drop c.args.told progress) = ap (λ (t : List ℕ). take (next - c.args.told) (drop c.args.told t)) c.progress_text-text.ensures.text in
    told_more c.args.quiet progress _ c.args.told next before (g.O.Sink.got c.args.out.now) (g.O.Sink.got c.put_text.new.out) order part first c.in_ok-put_text.ensures.ok

pub returns-clause-ends : goal.returns-clause-ends
returns-clause-ends g c = λ names faults.
    let put = c.in_ok-put_text.ensures.ends names faults in
    ends_ok c.max-next.result names faults faults _ _ (omega arith) put.cause.out_later
