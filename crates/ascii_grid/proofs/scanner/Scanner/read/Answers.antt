use Rattle.ascii_grid.proofs.Whole.{fault_after}
use Rattle.ascii_grid.proofs.scanner.Scanner.read.Goals as goal

pub returns-clause-fault : goal.returns-clause-fault
returns-clause-fault c text f reads is = fault_after text c.args.bytes.now c.args.self.now c.take.new.self c.answer.result f reads c.take.ensures.state c.answer.ensures is
