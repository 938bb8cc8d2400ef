use Rattle.vrt_writing.proofs.Pieces.{keeps_more, on_err}
use Rattle.vrt_writing.proofs.spelling.push_each_source.Goals as goal

pub returns-in_err-push_source-clause-err : goal.returns-in_err-push_source-clause-err
returns-in_err-push_source-clause-err c = on_err c.from_residual.result (keeps_more _ _ _ _ c.loop-source.invariant c.in_err-push_source.ensures.err)
