use Rattle.nearest_window.proofs.Columns.{none_cut, cut_made}
use Rattle.nearest_window.proofs.picture.cut_of.Goals as goal

pub returns-then-left-right-clause-none : goal.returns-then-left-right-clause-none
returns-then-left-right-clause-none c = λ e. none_cut c.args.axis c.args.count c.args.width c.args.start c.args.len c.run-run.result.first c.run-run.result.end c.max-left.result c.min-right.result c.run-run.ensures.covered c.requires.within c.max-left.ensures c.min-right.ensures c.if-left-right.true

pub returns-clause-cut : goal.returns-clause-cut
returns-clause-cut c = cut_made c.args.axis c.args.count c.args.width c.args.start c.args.len c.run-run.result.first c.run-run.result.end c.max-left.result c.min-right.result c.run-run.ensures.covered c.requires.within c.max-left.ensures c.min-right.ensures c.in_ok-places.places c.if-left-right.false c.in_ok-places.ensures.long c.in_ok-places.ensures.places
