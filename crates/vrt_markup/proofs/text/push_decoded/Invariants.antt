use Rattle.std.proofs.Common.{◌≡◌, ◌++◌, length}
use Rattle.vrt_markup.specs.Forest.{decoded}
use Rattle.vrt_markup.proofs.text.push_decoded.Given as goal

abbrev pub invariant-loop-rest : goal.invariant-loop-rest
invariant-loop-rest l = l.out.items ++ decoded l.rest ≡ l.fn.out.items ++ decoded l.raw

abbrev pub decreases-loop-rest : goal.decreases-loop-rest
decreases-loop-rest l = length l.rest
