use Rattle.catalog.proofs.Keepings.{among_before}
use Rattle.catalog.proofs.repeats.stands_before.Goals as goal
use Rattle.std.proofs.Common.{arith}

pub returns : goal.returns
returns c = record {
  before = λ same. among_before c.args.names.now c.args.other c.args.at c.index-names-other.result c.args.name.now (omega arith) (omega arith) c.index-names-other.is (c.are_same.ensures.same same);
}
