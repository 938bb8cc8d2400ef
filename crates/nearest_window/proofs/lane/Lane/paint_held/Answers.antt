use Rattle.nearest_window.proofs.lane.Lane.paint_held.Goals as goal

pub paint_from-requires-clause-picture : goal.paint_from-requires-clause-picture
paint_from-requires-clause-picture g c = c.requires.picture

pub paint_from-requires-clause-area : goal.paint_from-requires-clause-area
paint_from-requires-clause-area g c = c.requires.area

pub paint_from-requires-clause-rows : goal.paint_from-requires-clause-rows
paint_from-requires-clause-rows g c = c.requires.rows

pub paint_from-requires-clause-across : goal.paint_from-requires-clause-across
paint_from-requires-clause-across g c = c.requires.across

pub paint_from-requires-clause-down : goal.paint_from-requires-clause-down
paint_from-requires-clause-down g c = c.requires.down

pub paint_from-requires-2-clause-picture : goal.paint_from-requires-2-clause-picture
paint_from-requires-2-clause-picture g c = c.requires.picture

pub paint_from-requires-2-clause-area : goal.paint_from-requires-2-clause-area
paint_from-requires-2-clause-area g c = c.requires.area

pub paint_from-requires-2-clause-rows : goal.paint_from-requires-2-clause-rows
paint_from-requires-2-clause-rows g c = c.requires.rows

pub paint_from-requires-2-clause-across : goal.paint_from-requires-2-clause-across
paint_from-requires-2-clause-across g c = c.requires.across

pub paint_from-requires-2-clause-down : goal.paint_from-requires-2-clause-down
paint_from-requires-2-clause-down g c = c.requires.down
