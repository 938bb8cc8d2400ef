use Rattle.vrt_writing.proofs.Pieces.{empty_made, keeps_then_pairs, keeps_same, on_err}
use Rattle.vrt_writing.proofs.lines.push_sides_line.Goals as goal

pub returns-in_err-extend_from_slice-clause-err : goal.returns-in_err-extend_from_slice-clause-err
returns-in_err-extend_from_slice-clause-err c = on_err c.from_residual-in_err-extend_from_slice.result (keeps_then_pairs _ _ _ _ _ _ c.in_ok-push_start.ensures.ok c.in_ok-push_sides.ensures.ok (keeps_same _ _ c.in_err-extend_from_slice.ensures.items))

pub returns-clause-ok : goal.returns-clause-ok
returns-clause-ok c = empty_made _ _ _ _ _ 3 _ c.in_ok-push_start.ensures.ok c.in_ok-push_sides.ensures.ok c.in_ok-extend_from_slice.ensures.items
