use Rattle.geotransform.proofs.Written.{three_pieces, keeps_equal, keeps_same, keeps_then, on_err_any, on_err_then, on_ok_then}
use Rattle.geotransform.proofs.print.push_parts.Goals as goal

pub returns-in_err-push_minus-clause-err : goal.returns-in_err-push_minus-clause-err
returns-in_err-push_minus-clause-err c = on_err_any _ (keeps_equal _ _ c.in_err-push_minus.ensures.err)

pub returns-in_err-push_number-clause-err : goal.returns-in_err-push_number-clause-err
returns-in_err-push_number-clause-err c = on_err_any _ (keeps_same _ _ _ _ c.in_ok-push_minus.ensures.ok c.in_err-push_number.ensures.err)

pub returns-clause-ok : goal.returns-clause-ok
returns-clause-ok c = on_ok_then c.push_fraction.result c.push_fraction.ensures.ok (λ e. three_pieces _ _ _ _ _ _ _ c.in_ok-push_minus.ensures.ok c.in_ok-push_number.ensures.ok e)

pub returns-clause-err : goal.returns-clause-err
returns-clause-err c = on_err_then c.push_fraction.result c.push_fraction.ensures.err (λ k. keeps_then _ _ _ _ c.in_ok-push_minus.ensures.ok (keeps_then _ _ _ _ c.in_ok-push_number.ensures.ok k))
