use Rattle.std.proofs.Common.{sym}
use Rattle.vrt_markup.specs.Attributes.{pair_view}
use Rattle.vrt_markup.proofs.Ordered.{front_others}
use Rattle.vrt_markup.proofs.attributes.attribute_front.Goals as goal

pub returns-in-Some-clause-others : goal.returns-in-Some-clause-others
returns-in-Some-clause-others c = λ other differs. front_others c.args.text.now c.args.name.now other (pair_view c.in-Some.pair) c.in-Some.more.now (sym c.in-Some.ensures.pair) (sym c.if-eq.ensures) differs
