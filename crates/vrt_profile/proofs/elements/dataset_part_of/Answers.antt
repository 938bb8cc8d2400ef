use Rattle.std.proofs.Common.{refl}
use Rattle.vrt_profile.proofs.elements.dataset_part_of.Goals as goal

pub returns-then-is_past : goal.returns-then-is_past
returns-then-is_past c = record {
  part = rw (← c.if-is_equal.ensures.same, ← c.if-is_equal-2.ensures.same, ← c.if-is_equal-3.ensures.same, ← c.if-is_past.ensures.past) refl;
}

pub returns-else-is_past : goal.returns-else-is_past
returns-else-is_past c = record {
  part = rw (← c.if-is_equal.ensures.same, ← c.if-is_equal-2.ensures.same, ← c.if-is_equal-3.ensures.same, ← c.if-is_past.ensures.past) refl;
}
