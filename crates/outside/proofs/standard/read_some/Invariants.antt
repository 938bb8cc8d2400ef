use Rattle.std.proofs.Common.{◌<◌, length}
use Rattle.outside.proofs.Told.{Stays}
use Rattle.outside.proofs.standard.read_some.Given as goal

-- no byte was read so far
abbrev pub invariant-loop : goal.invariant-loop
invariant-loop g l = record {
  some : 0 < length l.out;
  left : Stays (g.R.Read.remaining l.fn.reader) (g.R.Read.remaining l.reader);
}
