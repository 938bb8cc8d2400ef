use Rattle.std.proofs.Common.{◌∙◌}
use Rattle.catalog.proofs.Whole.{all_read}
use Rattle.mosaic_builds.proofs.list.read_whole.Goals as goal

pub returns-in-Ok-clause-ok : goal.returns-in-Ok-clause-ok
returns-in-Ok-clause-ok g c = λ b told.
    let whole = c.requires.told b told in
    all_read b c.read_at.new.out _ _ c.in_ok-bytes.bytes.len (c.in-Ok.ensures.ok b told) (c.deref_mut.ensures.len ∙ c.in_ok-bytes.ensures.len ∙ whole) (c.in_ok-bytes.ensures.len ∙ whole)
