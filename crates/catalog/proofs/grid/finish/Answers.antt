use Rattle.catalog.proofs.Scans.{fed_head, fed_refused, fed_rows}
use Rattle.catalog.proofs.grid.finish.Goals as goal

pub returns-in-Ok-clause-told : goal.returns-in-Ok-clause-told
returns-in-Ok-clause-told c = fed_head _ c.in-Ok.head c.in-Ok.ensures.grid

pub returns-in-Ok-clause-rows : goal.returns-in-Ok-clause-rows
returns-in-Ok-clause-rows c = fed_rows _ c.in-Ok.head c.in-Ok.ensures.grid

pub returns-in-Err-clause-err : goal.returns-in-Err-clause-err
returns-in-Err-clause-err c = fed_refused _ c.in-Err.fault c.in-Err.ensures.grid
