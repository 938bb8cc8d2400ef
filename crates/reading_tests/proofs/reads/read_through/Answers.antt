use Rattle.reading_tests.proofs.reads.read_through.Goals as goal

pub read_each-requires-clause-ready : goal.read_each-requires-clause-ready
read_each-requires-clause-ready g c κs within = c.in_ok-lane.ensures.fresh c.args.folder.now c.args.cat.now c.requires.walked
