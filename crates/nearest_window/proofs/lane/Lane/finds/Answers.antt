use Rattle.nearest_window.proofs.Service.{fit_then, serves_still}
use Rattle.nearest_window.proofs.lane.Lane.finds.Goals as goal

pub returns-then-holds-clause-serves : goal.returns-then-holds-clause-serves
returns-then-holds-clause-serves g c = λ loads. serves_still g.F.Folder c.args.supply.now.cat.now c.args.folder.now c.args.self.now loads c.requires.fit.ready

pub returns-clause-fit : goal.returns-clause-fit
returns-clause-fit g c = fit_then g.F.Folder c.args.supply.now.cat.now c.requires.fit (c.takes_shown.ensures.serves 0)
