use Rattle.std.proofs.lemmas.Result.{on_ok_weaker, on_err_weaker}
use Rattle.ascii_grid.proofs.Writes.{head_added, keeps_added, keeps_three, on_err_any}
use Rattle.ascii_grid.proofs.writing.write_head.Goals as goal

pub returns-in_err-push_steps-clause-err : goal.returns-in_err-push_steps-clause-err
returns-in_err-push_steps-clause-err c = on_err_any c.from_residual-in_err-push_steps.result (keeps_added _ _ _ _ c.in_ok-push_sizes.ensures.ok (keeps_added _ _ _ _ c.in_ok-push_edges.ensures.ok c.in_err-push_steps.ensures.err))

pub returns-clause-ok : goal.returns-clause-ok
returns-clause-ok c = on_ok_weaker c.push_nodata.result (λ h. (head_added _ _ _ _ _ _ _ _ _ c.placing_of-placing.ensures c.in_ok-push_sizes.ensures.ok c.in_ok-push_edges.ensures.ok c.in_ok-push_steps.ensures.ok h).all) c.push_nodata.ensures.ok

pub returns-clause-err : goal.returns-clause-err
returns-clause-err c = on_err_weaker c.push_nodata.result (λ h. keeps_three _ _ _ _ _ _ _ _ c.in_ok-push_sizes.ensures.ok c.in_ok-push_edges.ensures.ok c.in_ok-push_steps.ensures.ok h) c.push_nodata.ensures.err
