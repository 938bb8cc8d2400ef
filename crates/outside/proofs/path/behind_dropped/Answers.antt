use Rattle.outside.proofs.Trims.{cut_behind, same_behind}
use Rattle.outside.proofs.path.behind_dropped.Goals as goal

pub split_at-requires : goal.split_at-requires
split_at-requires c = cut_behind c.args.text.now _ _ c.utf8.text c.as_bytes.ensures.value c.dropped_len.ensures.bound c.dropped_len.ensures.slash

pub returns-clause-parts : goal.returns-clause-parts
returns-clause-parts c = same_behind c.args.text.now _ _ _ c.as_bytes.ensures.value c.split_at.ensures.back c.dropped_len.ensures.parts
