use Rattle.std.proofs.Common.{ap, subst, ◌<◌, length, arith}
use Rattle.catalog.specs.Dataset.{DatasetHead}
use Rattle.nearest_window.proofs.Blocks.{window_within}
use Rattle.window_sums.proofs.add_window.Goals as goal

pub read_window-requires-clause-window : goal.read_window-requires-clause-window
read_window-requires-clause-window g c κs within =
    let is = c.behind-cat.view_is in
    window_within c.args.cat.now c.args.dataset c.requires.known c.head.result.now c.head.ensures.head (subst (λ (h : DatasetHead). 0 < length h.bands) is c.behind-cat.invariant.some_band) c.args.rect c.behind-cat.inside.size.w c.behind-cat.inside.size.h (ap (λ (h : DatasetHead). h.size.w) is) (ap (λ (h : DatasetHead). h.size.h) is) (omega arith) (omega arith)
