use Rattle.ascii_grid.proofs.Whites.{white_added}
use Rattle.ascii_grid.proofs.scanner.Scanner.add_white.Goals as goal

pub returns-clause-state : goal.returns-clause-state
returns-clause-state c =
    let i = c.self.inside in
    white_added c.args.white.now i.fault i.held c.pass_white.new.self i.stage i.rows c.args.self.now c.requires.some c.requires.white c.self.view_is c.requires.closed c.pass_white.ensures
