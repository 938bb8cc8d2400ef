use Rattle.std.proofs.Common.{arith}
use Rattle.outside.proofs.Normal.{name_from}
use Rattle.outside.proofs.name.Name.read.Goals as goal

pub invariant_of-result : goal.invariant_of-result
invariant_of-result c = name_from c.args.text.now _ c.in_ok-normalise.ensures (grind arith) (omega arith)

pub returns-clause-valid : goal.returns-clause-valid
returns-clause-valid c = name_from c.args.text.now _ c.in_ok-normalise.ensures (grind arith) (omega arith)
