use Rattle.std.proofs.Common.{rules}
use Rattle.vrt_writing.proofs.Listed.{dataset_by}
use Rattle.vrt_writing.proofs.spelling.write.Goals as goal

pub returns-clause-ok : goal.returns-clause-ok
returns-clause-ok c = dataset_by _ _ _ _ c.args.document.now _ c.in_ok-push_dataset_tag.ensures.ok (search rules) c.in_ok-push_parts.ensures.ok c.in_ok-push_end_line.ensures.ok
