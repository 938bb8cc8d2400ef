use Rattle.vrt_writing.proofs.Pieces.{keeps_more, keeps_more_two, on_err, words_made}
use Rattle.vrt_writing.proofs.lines.push_number_line.Goals as goal

pub returns-in_err-push_number-clause-err : goal.returns-in_err-push_number-clause-err
returns-in_err-push_number-clause-err c = on_err c.from_residual-in_err-push_number.result (keeps_more _ _ _ _ c.in_ok-push_open.ensures.ok c.in_err-push_number.ensures.err)

pub returns-in_err-push_end-clause-err : goal.returns-in_err-push_end-clause-err
returns-in_err-push_end-clause-err c = on_err c.from_residual-in_err-push_end.result (keeps_more_two _ _ _ _ _ _ c.in_ok-push_open.ensures.ok c.in_ok-push_number.ensures.ok c.in_err-push_end.ensures.err)

pub returns-clause-ok : goal.returns-clause-ok
returns-clause-ok c = words_made _ _ _ _ _ _ _ c.in_ok-push_open.ensures.ok c.in_ok-push_number.ensures.ok c.in_ok-push_end.ensures.ok
