use Rattle.std.proofs.Common.{ap, ◌∙◌, subst, map}
use Rattle.band_blocks.specs.Spread.{IsSpread}
use Rattle.band_blocks.proofs.packed.Packed.copy_spread.Goals as goal

pub returns : goal.returns
returns g c = record { spread = subst (λ l. IsSpread l c.args.at c.args.count c.args.start c.args.stride c.args.out.now c.spread_cells.new.out) (ap (map g.T.Cell.value) c.deref.ensures.value ∙ c.self.view_is) c.spread_cells.ensures }
