use Rattle.std.proofs.lemmas.Result.{on_ok_weaker, on_err_weaker}
use Rattle.ascii_grid.proofs.Writes.{line_made, keeps_then, keeps_two, on_err_any}
use Rattle.ascii_grid.proofs.writing.push_ticks.Goals as goal

pub returns-in_err-print_short-clause-err : goal.returns-in_err-print_short-clause-err
returns-in_err-print_short-clause-err c = on_err_any c.from_residual-in_err-print_short.result (keeps_then _ _ _ _ c.in_ok-extend_from_slice.ensures.items c.in_err-print_short.ensures.err)

pub returns-clause-ok : goal.returns-clause-ok
returns-clause-ok c = on_ok_weaker c.push_end.result (λ h. line_made _ _ _ _ _ _ c.in_ok-extend_from_slice.ensures.items c.in_ok-print_short.ensures.ok h) c.push_end.ensures.ok

pub returns-clause-err : goal.returns-clause-err
returns-clause-err c = on_err_weaker c.push_end.result (λ h. keeps_two _ _ _ _ _ _ c.in_ok-extend_from_slice.ensures.items c.in_ok-print_short.ensures.ok h) c.push_end.ensures.err
