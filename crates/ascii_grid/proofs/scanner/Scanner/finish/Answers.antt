use Rattle.ascii_grid.proofs.Whole.{reads_end, gives_from}
use Rattle.ascii_grid.proofs.Files.{scanned_all}
use Rattle.ascii_grid.specs.Grid.{grid_head}
use Rattle.ascii_grid.proofs.scanner.Scanner.finish.Goals as goal

pub returns-clause-grid : goal.returns-clause-grid
returns-clause-grid c text reads = gives_from c.end.result (grid_head text) (reads_end text c.args.self c.end.result reads c.end.ensures.answer)

pub returns-clause-whole : goal.returns-clause-whole
returns-clause-whole c file at scanned past = scanned_all c.end.result c.args.self file at scanned past (λ text reads. gives_from c.end.result (grid_head text) (reads_end text c.args.self c.end.result reads c.end.ensures.answer))
