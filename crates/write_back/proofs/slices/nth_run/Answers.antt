use Rattle.std.proofs.Common.{◌≡◌, ◌+◌, ◌-◌, ◌*◌, ap, ◌∙◌, length, take, drop, arith}
use Rattle.std.proofs.lemmas.List.{length-take-le, length-drop}
use Rattle.write_back.proofs.slices.nth_run.Goals as goal

pub returns-clause-run : goal.returns-clause-run
returns-clause-run c = ap (λ k. take k (drop (c.args.n * c.args.len) c.args.samples.now)) (omega arith)

pub returns-clause-len : goal.returns-clause-len
returns-clause-len c =
    let from = c.args.n * c.args.len in
    let rest = length-drop from c.args.samples.now in
    let is : take (from + c.args.len - from) (drop from c.args.samples.now) ≡ take c.args.len (drop from c.args.samples.now) = ap (λ k. take k (drop from c.args.samples.now)) (omega arith) in
    ap length is ∙ length-take-le c.args.len (drop from c.args.samples.now) (omega (arith, c.requires.within))
