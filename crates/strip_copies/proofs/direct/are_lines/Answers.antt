use Rattle.std.proofs.Common.{◌≡◌, ◌∙◌, ◌<◌, Some, ap, sym, arith}
use Rattle.std.proofs.lemmas.Bool.Decides.{nat_tests}
use Rattle.geotransform.specs.Pixels.{within}
use Rattle.translate_plan.specs.Plan.{Planned, shown_line}
use Rattle.strip_copies.proofs.Straight.{lines_own}
use Rattle.strip_copies.proofs.direct.are_lines.Goals as goal

pub returns-in-Some-clause-lines : goal.returns-in-Some-clause-lines
returns-in-Some-clause-lines c = λ is.
    let p = c.args.plan.now in
    let s = c.args.run.span in
    let high : c.plan.inside.window.h ≡ c.plan.inside.size.h = (let t = c.if-plan.false in grind (arith, nat_tests)) in
    let whole : p.window.h ≡ p.size.h = sym (ap (λ (p : Planned). p.window.h) c.plan.view_is) ∙ high ∙ ap (λ (p : Planned). p.size.h) c.plan.view_is in
    let some : 0 < p.size.h = (let a = c.requires.some in let b = c.requires.end in omega arith) in
    let top : c.in-Some.line ≡ s.top = grind (arith, nat_tests) in
    let here : within c.args.height (shown_line p c.args.run.first) ≡ Some s.top = sym c.in-Some.ensures.place ∙ ap Some top in
    lines_own p c.args.height c.args.run.first s.top s.height whole some here c.requires.inside
