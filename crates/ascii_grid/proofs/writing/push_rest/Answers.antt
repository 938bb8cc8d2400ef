use Rattle.std.proofs.Common.{rules}
use Rattle.ascii_grid.proofs.Writes.{keeps_more, more_pushed, on_err_any}
use Rattle.ascii_grid.proofs.writing.push_rest.Goals as goal

pub returns-in_err-push_more-clause-err : goal.returns-in_err-push_more-clause-err
returns-in_err-push_more-clause-err c = on_err_any c.from_residual.result (keeps_more _ _ _ _ c.loop-n.invariant c.in_err-push_more.ensures.err)

pub loop-n-preserved : goal.loop-n-preserved
loop-n-preserved c = more_pushed _ _ _ _ _ _ (search rules) c.loop-n-test.true c.loop-n.invariant c.in_ok-push_more.ensures.ok
