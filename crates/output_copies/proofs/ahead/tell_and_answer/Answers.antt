use Rattle.std.proofs.Common.{ℕ, arith, refl, subst, Err, Result}
use Rattle.std.specs.Prelude.{IfErr}
use Rattle.error_lines.specs.declared.faults.Fault.{Fault}
use Rattle.output_copies.specs.Copying.{MayEnd, TellsChange}
use Rattle.output_copies.proofs.Beside.{ends_beside_put}
use Rattle.output_copies.proofs.Changes.{handed_on, out_tells}
use Rattle.output_copies.proofs.Ends.{ends_after, ends_ok, ends_so, err_is}
use Rattle.output_copies.proofs.ahead.tell_and_answer.Goals as goal

pub returns-in_err-read-in-Ok-clause-ends : goal.returns-in_err-read-in-Ok-clause-ends
returns-in_err-read-in-Ok-clause-ends g c = λ names before now ends.
    let put = c.in-Ok.ensures.ends names now in
    ends_so {T = ℕ} names before now _ _ c.in_err-read-in-Ok.field-0.0 c.from_residual.result (err_is c.from_residual.result c.in_err-read-in-Ok.field-0.0 c.from_residual.ensures)
    (ends_beside_put names before now _ _ c.in_err-read-in-Ok.field-0.0 put.cause.out_later (subst (λ (r : Result (Unit {0}) Fault). MayEnd names before now 0 0 r) (c.in_err-read-in-Ok.was {u = tt}) ends))

pub returns-in_ok-read-in-Ok-clause-ends : goal.returns-in_ok-read-in-Ok-clause-ends
returns-in_ok-read-in-Ok-clause-ends g c = λ names before now ends.
    let put = c.in-Ok.ensures.ends names now in
    ends_ok c.in-Ok.next names before now _ _ ends.cause.folder_later put.cause.out_later

pub returns-in-Err-clause-ends : goal.returns-in-Err-clause-ends
returns-in-Err-clause-ends g c = λ names before now ends.
    let put = c.in-Err.ensures.ends names now in
    ends_after names names before now now (g.O.Sink.faults c.args.out.now) (g.O.Sink.faults c.args.out.now) (g.O.Sink.faults c.tell_behind.new.out) (Err c.in-Err.fault) refl ends.cause.folder_later (omega arith) put

pub returns-in_err-read-in-Ok-clause-changed : goal.returns-in_err-read-in-Ok-clause-changed
returns-in_err-read-in-Ok-clause-changed g c = λ cat tells.
    handed_on (TellsChange cat) c.in_err-read-in-Ok.field-0.0 c.from_residual.result c.from_residual.ensures (subst (λ (r : Result (Unit {0}) Fault). IfErr r (TellsChange cat)) (c.in_err-read-in-Ok.was {u = tt}) tells)

pub returns-in-Err-clause-changed : goal.returns-in-Err-clause-changed
returns-in-Err-clause-changed g c = λ cat tells. out_tells cat c.in-Err.fault c.in-Err.ensures.faults
