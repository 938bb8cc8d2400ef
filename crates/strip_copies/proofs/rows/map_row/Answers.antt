use Rattle.std.proofs.Common.{rules, ◌≡◌, ◌∙◌, ◌<◌, length, get_or, to_z, of_z, arith}
use mir.Syntax.{w128}
use Rattle.strip_copies.specs.Rows.{made_of}
use Rattle.strip_copies.proofs.Grown.{set_more}
use Rattle.strip_copies.proofs.rows.map_row.Goals as goal

pub loop-at-preserved : goal.loop-at-preserved
loop-at-preserved c =
    let same : to_z w128 (of_z w128 c.made_at.result) ≡ c.made_at.result = search rules in
    let inside : c.loop-at.at < length c.loop-at.row = omega arith in
    set_more (λ i v. v ≡ made_of c.args.holding c.args.line.now (get_or c.args.places.now i 0)) c.loop-at.row c.loop-at.at (to_z w128 (of_z w128 c.made_at.result)) inside c.loop-at.invariant (same ∙ c.made_at.ensures.sample)
