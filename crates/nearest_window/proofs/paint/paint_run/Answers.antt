use Rattle.nearest_window.proofs.paint.paint_run.Goals as goal

pub paint_each-requires-clause-plain : goal.paint_each-requires-clause-plain
paint_each-requires-clause-plain c = c.requires.plain

pub paint_each-requires-clause-few : goal.paint_each-requires-clause-few
paint_each-requires-clause-few c = c.requires.few

pub paint_each-requires-clause-long : goal.paint_each-requires-clause-long
paint_each-requires-clause-long c = c.requires.long

pub paint_each-requires-clause-left : goal.paint_each-requires-clause-left
paint_each-requires-clause-left c = c.requires.left

pub paint_each-requires-clause-within : goal.paint_each-requires-clause-within
paint_each-requires-clause-within c = c.requires.within
