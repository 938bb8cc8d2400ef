use Rattle.vrt_writing.proofs.Pieces.{on_err}
use Rattle.vrt_writing.proofs.Listed.{keeps_tag_two}
use Rattle.vrt_writing.proofs.spelling.push_source.Goals as goal

pub returns-in_err-push_end_line-clause-err : goal.returns-in_err-push_end_line-clause-err
returns-in_err-push_end_line-clause-err c = on_err c.from_residual-in_err-push_end_line.result (keeps_tag_two _ _ _ _ _ _ _ _ _ _ _ c.in_ok-push_bare_tag.ensures.ok c.in_ok-push_place.ensures.ok c.in_ok-push_scaling.ensures.ok c.in_err-push_end_line.ensures.err)
