use Rattle.std.proofs.Common.{arith, refl, ◌+◌, ◌*◌, ◌≤◌}
use Rattle.std.proofs.Math.Nat.{mul-le-mul}
use Rattle.nearest_window.proofs.Canvases.{merged_more}
use Rattle.nearest_window.proofs.merging.take_rows.Goals as goal

pub loop-row-preserved : goal.loop-row-preserved
loop-row-preserved c =
    let test = c.loop-row-test.true in
    let low = c.requires.low in
    let size = c.loop-row.invariant.size in
    let big : (c.args.place.top + c.loop-row.row + 1) * c.args.place.stride ≤ (c.args.place.top + c.args.place.rows) * c.args.place.stride = mul-le-mul (omega arith) (omega arith) in
    merged_more c.args.taking.now c.args.kind c.args.pixels.now c.args.place c.loop-row.row
    ((c.args.place.top + c.loop-row.row) * c.args.place.stride + c.args.place.to) ((c.args.place.top + c.loop-row.row) * c.args.place.stride + c.args.place.to + c.args.place.columns)
    c.args.out.now c.loop-row.out c.take_each.new.out refl refl c.requires.inside (omega arith) c.loop-row.invariant c.take_each.ensures.taken
