use Rattle.std.proofs.Common.{sym, ◌∙◌}
use Rattle.vrt_markup.specs.Attributes.{pair_view}
use Rattle.vrt_markup.proofs.Names.{twice_here}
use Rattle.vrt_markup.proofs.attributes.stands_twice.Goals as goal

pub returns-then-name_number-number : goal.returns-then-name_number-number
returns-then-name_number-number c = record {
  twice = λ twice. c.loop-pair.invariant (twice_here c.loop-pair.rest.now (pair_view c.in-Some.pair) c.in-Some.more.now (sym c.in-Some.ensures.pair) (sym c.has_attribute.ensures ∙ twice));
}
