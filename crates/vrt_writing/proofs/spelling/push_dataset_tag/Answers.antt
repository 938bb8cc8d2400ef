use Rattle.vrt_writing.proofs.Pieces.{keeps_more, keeps_then_pairs, keeps_same, on_err}
use Rattle.vrt_writing.proofs.spelling.push_dataset_tag.Goals as goal

pub returns-in_err-push_size_pairs-clause-err : goal.returns-in_err-push_size_pairs-clause-err
returns-in_err-push_size_pairs-clause-err c = on_err c.from_residual-in_err-push_size_pairs.result (keeps_more _ _ _ _ c.in_ok-push_start.ensures.ok c.in_err-push_size_pairs.ensures.err)

pub returns-in_err-extend_from_slice-clause-err : goal.returns-in_err-extend_from_slice-clause-err
returns-in_err-extend_from_slice-clause-err c = on_err c.from_residual-in_err-extend_from_slice.result (keeps_then_pairs _ _ _ _ _ _ c.in_ok-push_start.ensures.ok c.in_ok-push_size_pairs.ensures.ok (keeps_same _ _ c.in_err-extend_from_slice.ensures.items))
