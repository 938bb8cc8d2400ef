use Rattle.nearest_window.proofs.Needed.{every_wanted}
use Rattle.nearest_window.proofs.wanted.all_of.Goals as goal

pub returns : goal.returns
returns c = record { all = λ size rect. every_wanted c.args.sources.now c.len.result size rect c.len.ensures.count }
