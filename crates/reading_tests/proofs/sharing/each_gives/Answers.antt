use Rattle.std.proofs.Common.{◌∙◌, sym}
use Rattle.reading_tests.proofs.sharing.each_gives.Goals as goal

pub view_gives-requires-clause-walked : goal.view_gives-requires-clause-walked
view_gives-requires-clause-walked g c κs within = λ m e. c.requires.walked m (sym c.loop-lane.invariant ∙ e)

pub view_gives-requires-clause-told : goal.view_gives-requires-clause-told
view_gives-requires-clause-told g c κs within = c.requires.told ∙ sym c.loop-lane.invariant
