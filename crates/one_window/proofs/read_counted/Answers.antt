use Rattle.std.proofs.Common.{◌<◌, ◌∙◌, ap, sym, subst, length, arith}
use Rattle.std.proofs.lemmas.List.Elements.{All-nil}
use Rattle.catalog.specs.Dataset.{DatasetHead}
use Rattle.catalog.specs.Pixels.{pixel_of_name}
use Rattle.catalog.specs.Places.{row_by_row}
use Rattle.catalog.specs.Walk.{IsWalked}
use Rattle.catalog.proofs.Found.{found}
use Rattle.nearest_window.proofs.Blocks.{window_within}
use Rattle.one_window.proofs.Opened.{number_known, of_ok}
use Rattle.one_window.proofs.read_counted.Goals as goal

pub head-requires : goal.head-requires
head-requires g c = record { known = number_known c.open_all.new.cat c.args.name.now c.in-Ok.dataset c.in-Ok.ensures.number }

pub read_window-read-requires-clause-ready : goal.read_window-read-requires-clause-ready
read_window-read-requires-clause-ready g c κs within =
    c.in-Ok-new.ensures.fresh c.open_all.new.folder c.open_all.new.cat
    (λ m told. c.in-Ok.ensures.walked m (sym c.in-Ok.ensures.names ∙ told) (subst (λ ds. IsWalked m ds) (sym c.new-cat.ensures.empty) (All-nil _)))

pub read_window-read-requires-clause-window : goal.read_window-read-requires-clause-window
read_window-read-requires-clause-window g c κs within =
    let is = c.behind-cat.view_is in
    window_within c.open_all.new.cat c.in-Ok.dataset (number_known c.open_all.new.cat c.args.name.now c.in-Ok.dataset c.in-Ok.ensures.number) c.head.result.now c.head.ensures.head (subst (λ (h : DatasetHead). 0 < length h.bands) is c.behind-cat.invariant.some_band) c.args.rect c.behind-cat.inside.size.w c.behind-cat.inside.size.h (ap (λ (h : DatasetHead). h.size.w) is) (ap (λ (h : DatasetHead). h.size.h) is) (omega arith) (omega arith)

pub returns : goal.returns
returns g c =
    let there = found c.open_all.new.cat c.args.name.now c.in-Ok.dataset c.in-Ok.ensures.number in
    record {
      pixels = λ m told ok.
          of_ok c.read_window-read.result (sym c.is_ok.ensures.value ∙ ok)
          (c.read_window-read.ensures.named m (c.in-Ok.ensures.names ∙ told) there.dataset there.at)
          ∙ ap (λ name. row_by_row (pixel_of_name m name 0) c.args.rect) there.named;
    }
