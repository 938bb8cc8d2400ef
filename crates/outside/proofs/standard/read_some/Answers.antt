use Rattle.std.proofs.Common.{arith}
use Rattle.outside.proofs.Told.{stays-none, stays-more, told-read}
use Rattle.outside.proofs.standard.read_some.Goals as goal

pub loop-init : goal.loop-init
loop-init g c = record { some = omega arith; left = stays-none _ }

pub returns-in-Ok-clause-told : goal.returns-in-Ok-clause-told
returns-in-Ok-clause-told g c =
    told-read _ _ _ c.read.new.buf c.in-Ok.count c.loop.invariant.left c.in-Ok.ensures.bound.0 (omega arith) c.in-Ok.ensures.bytes

pub returns-in-Err-2-clause-told : goal.returns-in-Err-2-clause-told
returns-in-Err-2-clause-told g c = (stays-more _ _ _ c.loop.invariant.left c.in-Err.ensures.bytes).kept

pub loop-preserved : goal.loop-preserved
loop-preserved g c = record { some = omega arith; left = stays-more _ _ _ c.loop.invariant.left c.in-Err.ensures.bytes }

pub returns-clause-told : goal.returns-clause-told
returns-clause-told g c = c.loop.invariant.left.kept
