use Rattle.std.proofs.Common.{◌∙◌}
use Rattle.outside.proofs.PathParts.{after_slash}
use Rattle.outside.proofs.path.rebuilt.Goals as goal

pub split_at-requires : goal.split_at-requires
split_at-requires c = after_slash c.as_str.result.now c.deref.result.now _ c.as_str.utf8 (c.as_str.ensures.value ∙ c.in_ok-slashed.ensures) c.deref.ensures.len c.if-is_empty.ensures
