use Rattle.vrt_writing.proofs.Pieces.{keeps_more, keeps_more_two, on_err}
use Rattle.vrt_writing.proofs.spelling.push_geo_line.Goals as goal

pub returns-in_err-push_geo_text-clause-err : goal.returns-in_err-push_geo_text-clause-err
returns-in_err-push_geo_text-clause-err c = on_err c.from_residual-in_err-push_geo_text.result (keeps_more _ _ _ _ c.in_ok-push_open.ensures.ok c.in_err-push_geo_text.ensures.err)

pub returns-in_err-push_end-clause-err : goal.returns-in_err-push_end-clause-err
returns-in_err-push_end-clause-err c = on_err c.from_residual-in_err-push_end.result (keeps_more_two _ _ _ _ _ _ c.in_ok-push_open.ensures.ok c.in_ok-push_geo_text.ensures.ok c.in_err-push_end.ensures.err)
