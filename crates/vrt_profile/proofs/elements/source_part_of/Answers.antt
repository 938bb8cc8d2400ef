use Rattle.std.proofs.Common.{◌∙◌, ap, refl}
use Rattle.vrt_profile.specs.Means.{scaling_part}
use Rattle.vrt_profile.proofs.elements.source_part_of.Goals as goal

pub returns-else-is_equal-5 : goal.returns-else-is_equal-5
returns-else-is_equal-5 c = record {
  part =
      rw (← c.if-is_equal.ensures.same, ← c.if-is_equal-2.ensures.same, ← c.if-is_equal-3.ensures.same, ← c.if-is_equal-4.ensures.same, ← c.if-is_equal-5.ensures.same)
      (c.scaling_part.ensures.part ∙ ap (scaling_part c.args.complex) c.scaling_of.ensures.part);
}

pub returns-then-is_equal-4 : goal.returns-then-is_equal-4
returns-then-is_equal-4 c = record {
  part = rw (← c.if-is_equal.ensures.same, ← c.if-is_equal-2.ensures.same, ← c.if-is_equal-3.ensures.same, ← c.if-is_equal-4.ensures.same) refl;
}

pub returns-then-is_equal-5 : goal.returns-then-is_equal-5
returns-then-is_equal-5 c = record {
  part = rw (← c.if-is_equal.ensures.same, ← c.if-is_equal-2.ensures.same, ← c.if-is_equal-3.ensures.same, ← c.if-is_equal-4.ensures.same, ← c.if-is_equal-5.ensures.same) refl;
}
