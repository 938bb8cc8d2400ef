use Rattle.std.proofs.Common.{◌∙◌, ap}
use Rattle.std.specs.Prelude.{min}
use Rattle.catalog.proofs.Whole.{front_read}
use Rattle.catalog.proofs.files.read_front.Goals as goal

pub returns-in-Ok-clause-ok : goal.returns-in-Ok-clause-ok
returns-in-Ok-clause-ok g c = λ b told.
    let len = c.in_ok-bytes.ensures.len ∙ c.min-len.ensures ∙ ap (λ n. min n c.args.most) (c.len.ensures.told b told) in
    front_read b c.read_at.new.out _ _ c.in_ok-bytes.bytes.len c.args.most (c.in-Ok.ensures.ok b told) c.deref_mut.ensures.len len
