use Rattle.std.proofs.Common.{◌∙◌, ◌++◌, ap}
use Rattle.esri_hdr.proofs.Writes.{line_made, keeps_push_then, keeps_third, on_err_any}
use Rattle.esri_hdr.proofs.writing.push_ticks.Goals as goal

pub returns-in_err-print_short-clause-err : goal.returns-in_err-print_short-clause-err
returns-in_err-print_short-clause-err c = on_err_any c.from_residual-in_err-print_short.result (keeps_push_then _ _ _ _ c.in_ok-extend_from_slice.ensures.items c.in_err-print_short.ensures.err)

pub returns-in_err-push-clause-err : goal.returns-in_err-push-clause-err
returns-in_err-push-clause-err c = on_err_any c.from_residual-in_err-push.result (keeps_third _ _ _ _ _ _ c.in_ok-extend_from_slice.ensures.items c.in_ok-print_short.ensures.ok c.in_err-push.ensures.items)

pub returns-clause-ok : goal.returns-clause-ok
returns-clause-ok c = line_made c.args.key _ _ _ _ _ (c.in_ok-extend_from_slice.ensures.items ∙ ap (λ l. c.args.out.now.items ++ l) c.label.ensures) c.in_ok-print_short.ensures.ok c.in_ok-push.ensures.items
