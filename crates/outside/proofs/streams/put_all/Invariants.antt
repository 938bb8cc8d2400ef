use Rattle.std.proofs.Common.{◌≤◌, take}
use Rattle.lists_and_answers.specs.Texts.{joined}
use Rattle.outside.specs.Streams.{Gets}
use Rattle.outside.proofs.streams.put_all.Given as goal

-- what was put so far
abbrev pub invariant-loop-part : goal.invariant-loop-part
invariant-loop-part g l = record {
  got : Gets (joined (take l.part-index l.parts)) (g.S.Sink.got l.fn.sink) (g.S.Sink.got l.sink);
  later : g.S.Sink.faults l.fn.sink ≤ g.S.Sink.faults l.sink;
}
