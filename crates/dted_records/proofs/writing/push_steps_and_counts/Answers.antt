use Rattle.std.proofs.Common.{ap}
use Rattle.std.proofs.lemmas.Result.{on_ok_weaker, on_err_weaker}
use Rattle.dted_records.specs.Text.{steps_text, counts_text}
use Rattle.dted_records.proofs.Writes.{two_added, keeps_added, added_is}
use Rattle.dted_records.proofs.writing.push_steps_and_counts.Goals as goal

pub returns-clause-ok : goal.returns-clause-ok
returns-clause-ok c = on_ok_weaker c.push_numbers-2.result (λ h. two_added _ _ _ (steps_text c.args.head.now) (counts_text c.args.head.now) (added_is _ _ _ _ (ap steps_text c.head.view_is) c.in_ok-push_numbers.ensures.ok) (added_is _ _ _ _ (ap counts_text c.head.view_is) h)) c.push_numbers-2.ensures.ok

pub returns-clause-err : goal.returns-clause-err
returns-clause-err c = on_err_weaker c.push_numbers-2.result (keeps_added _ _ _ _ c.in_ok-push_numbers.ensures.ok) c.push_numbers-2.ensures.err
