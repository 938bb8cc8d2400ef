use Rattle.std.proofs.Common.{◌∙◌, sym}
use Rattle.reading_tests.proofs.sharing.view_gives.Goals as goal

pub gives-given-requires-clause-walked : goal.gives-given-requires-clause-walked
gives-given-requires-clause-walked g c κs within = λ m e. c.requires.walked m (sym c.in-Ok.ensures.view.same ∙ e)

pub gives-given-requires-clause-told : goal.gives-given-requires-clause-told
gives-given-requires-clause-told g c κs within = c.requires.told ∙ sym c.in-Ok.ensures.view.same
