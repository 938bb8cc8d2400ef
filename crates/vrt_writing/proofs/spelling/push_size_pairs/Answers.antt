use Rattle.vrt_writing.proofs.Pieces.{pairs_then}
use Rattle.vrt_writing.proofs.spelling.push_size_pairs.Goals as goal

pub returns-clause-ok : goal.returns-clause-ok
returns-clause-ok c = pairs_then _ _ _ _ _ c.in_ok-push_number_pair.ensures.ok c.in_ok-push_number_pair-2.ensures.ok
