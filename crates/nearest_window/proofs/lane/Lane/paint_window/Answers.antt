use Rattle.nearest_window.proofs.Service.{answered_same, fit_same}
use Rattle.nearest_window.proofs.lane.Lane.paint_window.Goals as goal

pub paint_picture-requires-clause-fit : goal.paint_picture-requires-clause-fit
paint_picture-requires-clause-fit g c κs within = fit_same g.F.Folder c.args.supply.now.cat.now c.requires.fit c.begin.ensures.same

pub returns-clause-answered : goal.returns-clause-answered
returns-clause-answered g c = answered_same g.F.Folder c.args.supply.now.cat.now c.paint_picture.result c.begin.ensures.same c.paint_picture.ensures.answered

pub returns-clause-painted : goal.returns-clause-painted
returns-clause-painted g c = c.paint_picture.ensures.painted

pub returns-clause-typed : goal.returns-clause-typed
returns-clause-typed g c = c.paint_picture.ensures.typed
