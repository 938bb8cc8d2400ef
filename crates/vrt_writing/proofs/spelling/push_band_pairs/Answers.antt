use Rattle.vrt_writing.proofs.Pieces.{keeps_pairs, on_err}
use Rattle.vrt_writing.proofs.spelling.push_band_pairs.Goals as goal

pub returns-in_err-push_number_pair-clause-err : goal.returns-in_err-push_number_pair-clause-err
returns-in_err-push_number_pair-clause-err c = on_err c.from_residual-in_err-push_number_pair.result (keeps_pairs _ _ _ _ c.in_ok-push_text_pair.ensures.ok c.in_err-push_number_pair.ensures.err)
