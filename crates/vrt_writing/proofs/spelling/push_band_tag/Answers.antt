use Rattle.vrt_writing.proofs.Listed.{tag_made}
use Rattle.vrt_writing.proofs.spelling.push_band_tag.Goals as goal

pub returns-clause-ok : goal.returns-clause-ok
returns-clause-ok c = tag_made _ _ _ _ _ 1 _ c.in_ok-push_start.ensures.ok c.in_ok-push_band_pairs.ensures.ok c.in_ok-extend_from_slice.ensures.items
