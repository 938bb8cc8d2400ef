use Rattle.std.proofs.Common.{◌≡◌, ◌∙◌, ◌+◌, ◌*◌, ◌-◌, ◌<◌, ◌≤◌, sym, subst, ap, length, length-drop, drop, arith}
use Rattle.std.proofs.lemmas.List.{length-take-le}
use Rattle.std.proofs.Math.Nat.{mul-le-mul}
use borrow.Rule.Slice.PartMut.{put_mid}
use Rattle.translate_plan.specs.Plan.{Planned}
use Rattle.strip_copies.specs.Rows.{AreSamples}
use Rattle.strip_copies.proofs.Joined.{lines_more, row_is_line}
use Rattle.strip_copies.proofs.making.make_lines.Goals as goal

pub loop-line-preserved : goal.loop-line-preserved
loop-line-preserved c = λ told name strip.
    let p = c.args.making.plan.now in
    let w = c.args.making.plan.now.size.w in
    let a = c.area-at.result in
    let line = c.loop-line.line in
    let first = c.args.run.first in
    let wide : c.plan.inside.size.w ≡ w = ap (λ (p : Planned). p.size.w) c.plan.view_is in
    let some : 0 < w = c.rules.ensures.kept.size.some_columns in
    let low : first ≤ line = omega arith in
    let at : a ≡ (line - first) * w = c.area-at.ensures.area ∙ ap (λ n. (line - first) * n) wide in
    let n : a + c.plan.inside.size.w - a ≡ w = omega (arith, wide) in
    let one : a + c.plan.inside.size.w - a ≡ 1 * w = omega (arith, wide) in
    let next : (line - first + 1) * w ≡ (line - first) * w + w = grind arith in
    let step : line + 1 - first ≡ line - first + 1 = omega (arith, low) in
    let most : (line - first + 1) * w ≤ (c.args.run.end - first) * w = mul-le-mul (omega arith) (omega arith) in
    let long : length c.loop-line.out ≡ (c.args.run.end - first) * w = c.loop-line.auto.out ∙ c.requires.room in
    let end : a + (a + c.plan.inside.size.w - a) ≡ (line + 1 - first) * w = (let e = ap (λ m. m * w) step in omega (arith, at, n, next, e)) in
    let here : first + (line - first) ≡ line = omega (arith, low) in
    let row = row_is_line told name p c.args.making.size c.args.making.band line some c.make_row.new.row (c.make_row.ensures.row told name strip) in
    let from : AreSamples told name p c.args.making.size c.args.making.band (first + (line - first)) (a + c.plan.inside.size.w - a) c.make_row.new.row =
    subst (λ j. AreSamples told name p c.args.making.size c.args.making.band j (a + c.plan.inside.size.w - a) c.make_row.new.row) (sym here) (subst (λ m. AreSamples told name p c.args.making.size c.args.making.band line m c.make_row.new.row) (sym n) row) in
    let size : length c.make_row.new.row ≡ a + c.plan.inside.size.w - a = (let kept = c.make_row.auto.row in let d = length-drop a c.loop-line.out in let t = length-take-le (a + c.plan.inside.size.w - a) (drop a c.loop-line.out) (omega (arith, at, n, next, most, long, d)) in omega arith) in
    subst (λ m. AreSamples told name p c.args.making.size c.args.making.band first m (put_mid a (a + c.plan.inside.size.w - a) c.loop-line.out c.make_row.new.row)) end
    (lines_more told name p c.args.making.size c.args.making.band first some (line - first) 1 a (a + c.plan.inside.size.w - a) c.loop-line.out c.make_row.new.row at one (omega (arith, at, next, most, long)) size
    (subst (λ m. AreSamples told name p c.args.making.size c.args.making.band first m c.loop-line.out) (sym at) (c.loop-line.invariant told name strip)) from)
