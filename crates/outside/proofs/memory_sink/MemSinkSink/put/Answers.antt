use Rattle.std.proofs.Common.{arith}
use Rattle.outside.proofs.Sinks.{front-or-none}
use Rattle.outside.proofs.memory_sink.MemSinkSink.put.Goals as goal

pub returns-then-fails-clause-front : goal.returns-then-fails-clause-front
returns-then-fails-clause-front c =
    front-or-none _ _ _ c.args.bytes.now c.min-count.result _ (omega (arith, c.min-count.ensures)) c.extend_from_slice.ensures.items
