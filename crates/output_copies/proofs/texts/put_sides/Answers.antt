use Rattle.std.proofs.Common.{◌≡◌, ◌++◌, subst, List, ℕ, codes, decimal}
use Rattle.std.specs.Prelude.{OnOk}
use Rattle.outside.specs.Streams.{Gets}
use Rattle.output_copies.specs.Copying.{spoken}
use Rattle.output_copies.proofs.texts.put_sides.Goals as goal

pub returns-clause-ok : goal.returns-clause-ok
returns-clause-ok g c =
    let columns : c.as_bytes-columns.result.now ≡ decimal c.args.size.w = cc in
    let lines : c.as_bytes-lines.result.now ≡ decimal c.args.size.h = cc in
    subst (λ (t : List ℕ). OnOk c.put_text.result (Gets (spoken c.args.quiet (codes "Input file size is " ++ (decimal c.args.size.w ++ (codes ", " ++ (t ++ codes "\n"))))) (g.O.Sink.got c.args.out.now) (g.O.Sink.got c.put_text.new.out))) lines
    (subst (λ (t : List ℕ). OnOk c.put_text.result (Gets (spoken c.args.quiet (codes "Input file size is " ++ (t ++ (codes ", " ++ (c.as_bytes-lines.result.now ++ codes "\n"))))) (g.O.Sink.got c.args.out.now) (g.O.Sink.got c.put_text.new.out))) columns
    c.put_text.ensures.ok)
