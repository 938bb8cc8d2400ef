use Rattle.vrt_writing.specs.Spelled.{next_pair_text}
use Rattle.vrt_writing.proofs.Pieces.{keeps_more, one_piece_more, on_err}
use Rattle.vrt_writing.proofs.spelling.push_next_pairs.Goals as goal

pub returns-in_err-push_next_pair-clause-err : goal.returns-in_err-push_next_pair-clause-err
returns-in_err-push_next_pair-clause-err c = on_err c.from_residual.result (keeps_more _ _ _ _ c.loop-pair.invariant c.in_err-push_next_pair.ensures.err)

pub loop-pair-preserved : goal.loop-pair-preserved
loop-pair-preserved c = one_piece_more next_pair_text c.args.pairs.now c.args.out.now.items c.loop-pair.out.items c.push_next_pair.new.out.items c.loop-pair.pair-index _ c.loop-pair-test.true c.loop-pair.invariant c.in_ok-push_next_pair.ensures.ok
