use Rattle.std.proofs.Common.{◌≡◌, ◌∙◌, ◌<◌, ◌+◌, ◌*◌, map, get_or, length, rules, arith, pos, to_z, of_z}
use mir.Syntax.{w128}
use Rattle.band_blocks.proofs.Scatter.{scatter_more}
use Rattle.band_blocks.proofs.Spread.{spread_none}
use Rattle.band_blocks.proofs.cell.scatter_cells.Goals as goal

pub loop-i-init : goal.loop-i-init
loop-i-init g c = spread_none c.args.samples.now 0 c.args.start c.args.stride (map g.T.Cell.value c.args.cells.now)

pub loop-i-preserved : goal.loop-i-preserved
loop-i-preserved g c =
    let e : to_z w128 (of_z w128 (get_or c.args.samples.now c.loop-i.i (pos 0))) ≡ get_or c.args.samples.now c.loop-i.i (pos 0) = search rules in
    let t = c.loop-i-test.true in
    let a = c.loop-i.auto.cells in
    let room = c.requires.room c.loop-i.i t in
    scatter_more g.T.Cell.value c.args.cells.now c.loop-i.cells c.args.samples.now c.loop-i.i c.args.start c.args.stride c.narrow.result c.requires.some (omega arith) (c.narrow.ensures ∙ e) c.loop-i.invariant
