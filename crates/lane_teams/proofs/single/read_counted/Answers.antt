use Rattle.lane_teams.proofs.Windows.{shown_of}
use Rattle.lane_teams.proofs.single.read_counted.Goals as goal

pub returns-clause-shown : goal.returns-clause-shown
returns-clause-shown g c =
    let o = c.read_window_with.ensures in
    shown_of c.read_window_with.result (g.F.Folder.names c.args.folder.now) c.args.supply.now.cat.now c.args.window c.read_window_with.new.out o.pixels o.named o.typed
