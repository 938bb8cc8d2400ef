use Rattle.vrt_writing.proofs.Pieces.{keeps_more, keeps_more_two, keeps_same, on_err}
use Rattle.vrt_writing.proofs.spelling.push_joined.Goals as goal

pub returns-in_err-print_short-2-clause-err : goal.returns-in_err-print_short-2-clause-err
returns-in_err-print_short-2-clause-err c = on_err c.from_residual-in_err-print_short-2.result (keeps_more_two _ _ _ _ _ _ c.in_ok-print_short.ensures.ok c.in_ok-extend_from_slice.ensures.items c.in_err-print_short-2.ensures.err)

pub returns-in_err-extend_from_slice-clause-err : goal.returns-in_err-extend_from_slice-clause-err
returns-in_err-extend_from_slice-clause-err c = on_err c.from_residual-in_err-extend_from_slice.result (keeps_more _ _ _ _ c.in_ok-print_short.ensures.ok (keeps_same _ _ c.in_err-extend_from_slice.ensures.items))
