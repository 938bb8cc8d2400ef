use Rattle.vrt_writing.specs.Spelled.{escape}
use Rattle.vrt_writing.proofs.Pieces.{one_piece_more, keeps_more, on_err}
use Rattle.vrt_writing.proofs.writing.push_escaped.Goals as goal

pub loop-c-preserved : goal.loop-c-preserved
loop-c-preserved c = one_piece_more escape c.as_bytes-c-items.result.now c.args.out.now.items c.loop-c.out.items c.push_escape.new.out.items c.loop-c.c-index 0 c.loop-c-test.true c.loop-c.invariant c.in_ok-push_escape.ensures.ok

pub returns-in_err-push_escape-clause-err : goal.returns-in_err-push_escape-clause-err
returns-in_err-push_escape-clause-err c = on_err c.from_residual.result (keeps_more _ _ _ _ c.loop-c.invariant c.in_err-push_escape.ensures.err)
