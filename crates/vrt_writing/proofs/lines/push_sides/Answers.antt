use Rattle.std.proofs.Common.{rules}
use Rattle.vrt_writing.proofs.Pieces.{sides_made, four_pairs, keeps_pairs, keeps_pairs_two, keeps_pairs_three, on_err}
use Rattle.vrt_writing.proofs.lines.push_sides.Goals as goal

pub returns-in_err-push_micro_pair-2-clause-err : goal.returns-in_err-push_micro_pair-2-clause-err
returns-in_err-push_micro_pair-2-clause-err c = on_err c.from_residual-in_err-push_micro_pair-2.result (keeps_pairs _ _ _ _ c.in_ok-push_micro_pair.ensures.ok c.in_err-push_micro_pair-2.ensures.err)

pub returns-in_err-push_micro_pair-3-clause-err : goal.returns-in_err-push_micro_pair-3-clause-err
returns-in_err-push_micro_pair-3-clause-err c = on_err c.from_residual-in_err-push_micro_pair-3.result (keeps_pairs_two _ _ _ _ _ _ c.in_ok-push_micro_pair.ensures.ok c.in_ok-push_micro_pair-2.ensures.ok c.in_err-push_micro_pair-3.ensures.err)

pub returns-in_err-push_micro_pair-4-clause-err : goal.returns-in_err-push_micro_pair-4-clause-err
returns-in_err-push_micro_pair-4-clause-err c = on_err c.from_residual-in_err-push_micro_pair-4.result (keeps_pairs_three _ _ _ _ _ _ _ _ c.in_ok-push_micro_pair.ensures.ok c.in_ok-push_micro_pair-2.ensures.ok c.in_ok-push_micro_pair-3.ensures.ok c.in_err-push_micro_pair-4.ensures.err)

pub returns-clause-ok : goal.returns-clause-ok
returns-clause-ok c = sides_made _ _ _ _ _ _ _ (four_pairs _ _ _ _ _ _ _ _ _ c.in_ok-push_micro_pair.ensures.ok c.in_ok-push_micro_pair-2.ensures.ok c.in_ok-push_micro_pair-3.ensures.ok c.in_ok-push_micro_pair-4.ensures.ok) (search rules) (search rules) (search rules) (search rules)
