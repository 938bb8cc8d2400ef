use Rattle.std.proofs.Common.{ap, subst, ◌<◌, length}
use Rattle.catalog.specs.Dataset.{DatasetHead}
use Rattle.nearest_window.proofs.Blocks.{window_of_all}
use Rattle.reading_tests.proofs.sharing.gives.Goals as goal

pub read_window_with-answer-requires-clause-window : goal.read_window_with-answer-requires-clause-window
read_window_with-answer-requires-clause-window g c κs within =
    let is = c.behind-cat.view_is in
    window_of_all c.args.cat.now c.args.id c.requires.id c.head.result.now c.head.ensures.head (subst (λ (h : DatasetHead). 0 < length h.bands) is c.behind-cat.invariant.some_band) c.behind-cat.inside.size.w c.behind-cat.inside.size.h (ap (λ (h : DatasetHead). h.size.w) is) (ap (λ (h : DatasetHead). h.size.h) is)
