use Rattle.vrt_writing.proofs.Pieces.{file_made, keeps_open, keeps_open_more, on_err}
use Rattle.vrt_writing.proofs.lines.push_file.Goals as goal

pub returns-clause-ok : goal.returns-clause-ok
returns-clause-ok c = file_made _ _ _ _ c.args.file.now c.args.relative c.in_ok-push_file_open.ensures.ok c.in_ok-push_escaped.ensures.ok c.in_ok-push_end.ensures.ok

pub returns-in_err-push_escaped-clause-err : goal.returns-in_err-push_escaped-clause-err
returns-in_err-push_escaped-clause-err c = on_err c.from_residual-in_err-push_escaped.result (keeps_open _ _ _ _ c.in_ok-push_file_open.ensures.ok c.in_err-push_escaped.ensures.err)

pub returns-in_err-push_end-clause-err : goal.returns-in_err-push_end-clause-err
returns-in_err-push_end-clause-err c = on_err c.from_residual-in_err-push_end.result (keeps_open_more _ _ _ _ _ _ c.in_ok-push_file_open.ensures.ok c.in_ok-push_escaped.ensures.ok c.in_err-push_end.ensures.err)
