use Rattle.std.proofs.Common.{arith}
use Rattle.outside.proofs.Parts.{gets-more, gets-part, on_err}
use Rattle.outside.proofs.streams.put_all.Goals as goal

pub returns-in_err-put-clause-err : goal.returns-in_err-put-clause-err
returns-in_err-put-clause-err g c =
    on_err _ (gets-part c.args.parts.now c.loop-part.part-index _ _ _ _ c.loop-part-test.true c.loop-part.invariant.got c.in_err-put.ensures.err)

pub loop-part-preserved : goal.loop-part-preserved
loop-part-preserved g c = record {
  got = gets-more c.args.parts.now c.loop-part.part-index _ _ _ _ c.loop-part-test.true c.loop-part.invariant.got c.in_ok-put.ensures.ok;
  later = omega (arith, c.loop-part.invariant.later, c.put.ensures.cause.later);
}
