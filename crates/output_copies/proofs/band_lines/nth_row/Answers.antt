use Rattle.std.proofs.Common.{◌≡◌, ◌+◌, ◌-◌, ◌*◌, ap, ◌∙◌, length, take, drop, arith}
use Rattle.std.proofs.lemmas.List.{length-take-le, length-drop}
use Rattle.output_copies.proofs.band_lines.nth_row.Goals as goal

pub returns-clause-row : goal.returns-clause-row
returns-clause-row c = ap (λ k. take k (drop (c.args.n * c.args.width) c.args.samples.now)) (omega arith)

pub returns-clause-len : goal.returns-clause-len
returns-clause-len c =
    let from = c.args.n * c.args.width in
    let rest = length-drop from c.args.samples.now in
    let is : take (from + c.args.width - from) (drop from c.args.samples.now) ≡ take c.args.width (drop from c.args.samples.now) = ap (λ k. take k (drop from c.args.samples.now)) (omega arith) in
    ap length is ∙ length-take-le c.args.width (drop from c.args.samples.now) (omega (arith, c.requires.within))
