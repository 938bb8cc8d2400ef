use Rattle.geotransform.proofs.Written.{on_err_any}
use Rattle.dted_records.proofs.Writes.{space_added, keeps_spaces}
use Rattle.dted_records.proofs.writing.push_spaces.Goals as goal

pub loop-at-preserved : goal.loop-at-preserved
loop-at-preserved c = space_added _ _ _ _ c.loop-at.invariant c.in_ok-push.ensures.items

pub returns-in_err-push-clause-err : goal.returns-in_err-push-clause-err
returns-in_err-push-clause-err c = on_err_any _ (keeps_spaces _ _ _ _ c.loop-at.invariant c.in_err-push.ensures.items)
