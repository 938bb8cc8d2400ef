use Rattle.std.proofs.Common.{◌≡◌, ◌∙◌, ◌+◌, ap, map, sym, pos, rules, arith, to_z, of_z}
use mir.Syntax.{w128}
use Rattle.std.proofs.lemmas.List.{get_or-map}
use Rattle.band_blocks.proofs.Spread.{spread_none, spread_more}
use Rattle.band_blocks.proofs.cell.spread_cells.Goals as goal

pub loop-i-init : goal.loop-i-init
loop-i-init g c = spread_none (map g.T.Cell.value c.args.cells.now) c.args.at c.args.start c.args.stride c.args.out.now

pub loop-i-preserved : goal.loop-i-preserved
loop-i-preserved g c =
    let e : to_z w128 (of_z w128 c.widen.result) ≡ c.widen.result = search rules in
    let t = c.loop-i-test.true in
    let r = c.requires.within in
    let a = c.loop-i.auto.out in
    let room = c.requires.room c.loop-i.i t in
    let cell = get_or-map g.T.Cell.value c.args.cells.now (c.args.at + c.loop-i.i) c.index-cells-at.result (pos 0) (omega arith) ∙ ap g.T.Cell.value (sym c.index-cells-at.is) ∙ sym c.widen.ensures.value in
    spread_more (map g.T.Cell.value c.args.cells.now) c.args.out.now c.loop-i.out c.args.at c.loop-i.i c.args.start c.args.stride _ c.requires.some (omega arith) (e ∙ sym cell) c.loop-i.invariant
