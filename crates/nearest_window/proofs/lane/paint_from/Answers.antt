use Rattle.nearest_window.proofs.lane.paint_from.Goals as goal

pub paint_rows-requires-clause-picture : goal.paint_rows-requires-clause-picture
paint_rows-requires-clause-picture c = c.requires.picture

pub paint_rows-requires-clause-area : goal.paint_rows-requires-clause-area
paint_rows-requires-clause-area c = c.requires.area

pub paint_rows-requires-clause-rows : goal.paint_rows-requires-clause-rows
paint_rows-requires-clause-rows c = c.requires.rows

pub paint_rows-requires-clause-across : goal.paint_rows-requires-clause-across
paint_rows-requires-clause-across c = c.requires.across

pub paint_rows-requires-clause-down : goal.paint_rows-requires-clause-down
paint_rows-requires-clause-down c = c.requires.down
