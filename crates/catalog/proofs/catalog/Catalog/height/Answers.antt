use Rattle.std.proofs.Common.{◌≡◌, ◌<◌, sym, subst, List, length, Some}
use Rattle.std.specs.Prelude.{slice_get, option_map}
use Rattle.catalog.specs.Drivers.{Dataset}
use Rattle.catalog.specs.Links.{height_of}
use Rattle.catalog.proofs.Opened.{height_told, height_low}
use Rattle.catalog.proofs.catalog.Catalog.height.Goals as goal

pub returns-clause-height : goal.returns-clause-height
returns-clause-height c =
    let known = subst (λ (ds : List Dataset). c.args.id < length ds) (sym c.self.view_is) c.requires.known in
    subst (λ (ds : List Dataset). option_map (λ (d : Dataset). height_of ds d) (slice_get ds c.args.id) ≡ Some c.height.result) c.self.view_is
    (height_told c.self.inside.met c.self.invariant c.args.id c.height.result known c.height.ensures.height)

pub returns-clause-low : goal.returns-clause-low
returns-clause-low c =
    let known = subst (λ (ds : List Dataset). c.args.id < length ds) (sym c.self.view_is) c.requires.known in
    height_low c.self.inside.met c.self.invariant c.args.id c.height.result known c.height.ensures.height
