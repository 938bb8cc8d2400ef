use Rattle.vrt_writing.proofs.Pieces.{file_open_by}
use Rattle.vrt_writing.proofs.lines.push_file_open.Goals as goal

pub returns-clause-ok : goal.returns-clause-ok
returns-clause-ok c = file_open_by _ _ _ _ _ _ c.flag_text.ensures.text c.in_ok-push_start.ensures.ok c.in_ok-push_text_pair.ensures.ok c.in_ok-extend_from_slice.ensures.items
