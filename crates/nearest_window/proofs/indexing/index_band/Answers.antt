use Rattle.nearest_window.proofs.Indexed.{right_put}
use Rattle.nearest_window.proofs.indexing.index_band.Goals as goal

pub returns : goal.returns
returns c = record { listed = right_put c.args.cat.now c.put.result c.args.indexes.now c.put.new.self c.in_ok-kept.kept c.put.ensures.ok c.put.ensures.err c.requires.listed c.in_ok-kept.ensures.index }
