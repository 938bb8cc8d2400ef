use Rattle.outside.proofs.Told.{Wrote}
use Rattle.outside.proofs.standard.write_out.Given as goal

-- what was written so far, and what is left
abbrev pub invariant-loop : goal.invariant-loop
invariant-loop g l = Wrote l.fn.bytes l.rest (g.W.Write.contents l.fn.writer) (g.W.Write.contents l.writer)
