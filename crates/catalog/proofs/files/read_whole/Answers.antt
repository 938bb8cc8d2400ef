use Rattle.std.proofs.Common.{◌≡◌, ◌∙◌, length}
use Rattle.catalog.proofs.Whole.{all_read}
use Rattle.catalog.proofs.files.read_whole.Goals as goal

pub returns-in-Ok-clause-ok : goal.returns-in-Ok-clause-ok
returns-in-Ok-clause-ok g c = λ b told.
    let whole = c.requires.told b told in
    let asked : length c.deref_mut.result.now ≡ length b = c.deref_mut.ensures.len ∙ c.in_ok-bytes.ensures.len ∙ whole in
    all_read b c.read_at.new.out _ _ c.in_ok-bytes.bytes.len (c.in-Ok.ensures.ok b told) asked (c.in_ok-bytes.ensures.len ∙ whole)
