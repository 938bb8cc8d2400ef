use Rattle.vrt_profile.proofs.Rules.{decimal_option}
use Rattle.vrt_profile.proofs.numbers.geo_from.Goals as goal

pub returns-clause-decimal : goal.returns-clause-decimal
returns-clause-decimal c = decimal_option c.args.ox c.args.oy c.args.dx c.args.dy c.new.result c.new.ensures.made c.new.ensures.kept c.requires.ox c.requires.oy c.requires.dx c.requires.dy
