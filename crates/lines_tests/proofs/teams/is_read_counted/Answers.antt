use Rattle.std.proofs.Common.{◌≡◌, ◌<◌, ◌∙◌, ℕ, List, Some, ap, sym, subst, length}
use Rattle.std.proofs.lemmas.List.Elements.{All-nil}
use Rattle.catalog.specs.Dataset.{DatasetHead}
use Rattle.catalog.specs.Drivers.{Dataset}
use Rattle.catalog.specs.Walk.{dataset_number_in, IsWalked}
use Rattle.catalog.proofs.Found.{found}
use Rattle.nearest_window.proofs.Blocks.{known, window_of_all}
use Rattle.lines_tests.proofs.teams.is_read_counted.Goals as goal

-- the number of a name is one of the catalog's datasets
number_known : (cat : List Dataset) (name : List ℕ) (id : ℕ) → dataset_number_in cat name ≡ Some id → id < length cat
number_known cat name id is =
    let there = found cat name id is in
    known cat id there.dataset there.at

pub head-requires : goal.head-requires
head-requires g c = record { known = number_known c.open_all.new.cat c.args.name.now c.in-Ok.dataset c.in-Ok.ensures.number }

-- new lanes are ready for a catalog that was walked
pub read_window-read-requires-clause-ready : goal.read_window-read-requires-clause-ready
read_window-read-requires-clause-ready g c κs within = λ k d less.
    c.in_ok-team.ensures.fresh k d less c.open_all.new.folder c.open_all.new.cat
    (λ m told. c.in-Ok.ensures.walked m (sym c.in-Ok.ensures.names ∙ told) (subst (λ ds. IsWalked m ds) (sym c.new-cat.ensures.empty) (All-nil _)))

pub read_window-read-requires-clause-window : goal.read_window-read-requires-clause-window
read_window-read-requires-clause-window g c κs within =
    let is = c.behind-cat.view_is in
    window_of_all c.open_all.new.cat c.in-Ok.dataset (number_known c.open_all.new.cat c.args.name.now c.in-Ok.dataset c.in-Ok.ensures.number) c.head.result.now c.head.ensures.head (subst (λ (h : DatasetHead). 0 < length h.bands) is c.behind-cat.invariant.some_band) c.behind-cat.inside.size.w c.behind-cat.inside.size.h (ap (λ (h : DatasetHead). h.size.w) is) (ap (λ (h : DatasetHead). h.size.h) is)
