use Rattle.std.proofs.Common.{◌≡◌, ◌∙◌, ◌+◌, ap, sym, subst, ℤ, to_z, drop, FitsSigned}
use Rattle.std.specs.Int.{w128}
use Rattle.std.proofs.lemmas.Int.{to_z-of_z}
use Rattle.buildvrt.specs.Grids.{less_of, least_from}
use Rattle.buildvrt.specs.Limits.{IsMeasure}
use Rattle.buildvrt.proofs.Measures.{least_next, less_rules}
use Rattle.buildvrt.proofs.grid.least_from.Goals as goal

pub loop-tile-preserved : goal.loop-tile-preserved
loop-tile-preserved c =
    let best : ℤ = to_z w128 c.loop-tile.best-bits in
    let number : ℤ = c.number_of.result in
    let next : ℤ = c.less_of-best.result in
    let number_fits : FitsSigned w128 number = record { sfits = c.number_of.type_inv } in
    let next_fits : FitsSigned w128 next = record { sfits = c.less_of-best.type_inv } in
    let is : next ≡ less_of best number = c.less_of-best.ensures ∙ ap (less_of best) (to_z-of_z w128 number number_fits) in
    record {
      same =
          ap (λ (b : ℤ). least_from c.args.which b (drop (c.loop-tile.tile-index + 1) c.args.tiles.now)) (to_z-of_z w128 next next_fits ∙ (is ∙ ap (less_of best) c.number_of.ensures.value))
          ∙ (least_next c.args.which best c.args.tiles.now c.loop-tile.tile-index c.tile-item.result c.loop-tile-test.true c.tile-item.is
          ∙ c.loop-tile.invariant.same);
      rules = subst (IsMeasure c.args.which) (sym (to_z-of_z w128 next next_fits ∙ is)) (less_rules c.args.which best number c.loop-tile.invariant.rules c.number_of.ensures.rules);
    }
