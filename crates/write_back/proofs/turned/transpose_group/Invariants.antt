use Rattle.write_back.proofs.Transposed.{HasLines}
use Rattle.write_back.proofs.turned.transpose_group.Given as goal

abbrev pub invariant-loop-line : goal.invariant-loop-line
invariant-loop-line l = HasLines l.samples l.width l.first l.columns l.lines l.line l.out
