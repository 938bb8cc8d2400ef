use Rattle.ascii_grid.proofs.Bodies.{body_next}
use Rattle.ascii_grid.proofs.steps.count_value.Goals as goal

pub returns-clause-keeps : goal.returns-clause-keeps
returns-clause-keeps c = body_next c.args.shape.now c.args.n.now c.args.x.now c.column_after.result c.args.at c.needed.result c.args.rows.now c.begin_row.new.rows c.requires c.if-n-needed.false c.needed.ensures.value c.in_ok-begin_row.ensures.ok c.column_after.ensures.value c.column_after.ensures.within
