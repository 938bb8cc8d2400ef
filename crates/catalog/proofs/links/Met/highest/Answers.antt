use Rattle.std.proofs.Common.{◌≡◌, ◌∙◌, ap, arith, rules}
use Rattle.std.specs.Prelude.{max}
use Rattle.catalog.specs.Linked.{most}
use Rattle.catalog.proofs.Rows.{most_rows}
use Rattle.catalog.proofs.links.Met.highest.Goals as goal

pub loop-row-preserved : goal.loop-row-preserved
loop-row-preserved c =
    let links = c.args.self.now.links in
    let here : c.highest_in.result ≡ most links c.row-item.result = c.highest_in.ensures.highest ∙ ap (most links) c.as_slice.ensures.items in
    let higher : c.max-height.result ≡ max c.loop-row.height c.highest_in.result = search rules in
    let more = most_rows links c.args.rows.now c.loop-row.row-index c.row-item.result c.loop-row.height c.loop-row-test.true c.row-item.is c.loop-row.invariant in
    omega arith
