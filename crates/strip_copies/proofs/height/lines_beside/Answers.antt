use Rattle.std.proofs.Common.{◌∙◌, ◌≤◌, ◌*◌, ◌/◌, ap, max, subst, sym}
use Rattle.strip_copies.proofs.Shared.{beside_fits}
use Rattle.strip_copies.proofs.height.lines_beside.Goals as goal

pub returns-clause-lines : goal.returns-clause-lines
returns-clause-lines c = c.max.ensures ∙ ap (λ n. max (4194304 / n / c.args.width) 1) c.get-count.ensures.value

pub returns-clause-share : goal.returns-clause-share
returns-clause-share c =
    let width = c.args.width in
    let fits = beside_fits (4194304 / c.get-count.result) width in
    let here : width * c.max.result ≤ max width (4194304 / c.get-count.result) = subst (λ n. width * n ≤ max width (4194304 / c.get-count.result)) (sym c.max.ensures) fits in
    subst (λ n. width * c.max.result ≤ max width (4194304 / n)) c.get-count.ensures.value here
