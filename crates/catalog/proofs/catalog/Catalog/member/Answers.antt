use Rattle.std.proofs.Common.{◌≡◌, ◌<◌, sym, subst, List, length, Some}
use Rattle.std.specs.Prelude.{slice_get, option_and_then}
use Rattle.catalog.specs.Drivers.{Dataset}
use Rattle.catalog.specs.Links.{member_at, height_of}
use Rattle.catalog.proofs.Opened.{HasSourceAt, band_within, source_in_row, member_told, member_known, member_below}
use Rattle.catalog.proofs.catalog.Catalog.member.Goals as goal

pub get-requires : goal.get-requires
get-requires c =
    let there = subst (λ (ds : List Dataset). HasSourceAt ds c.args.id c.args.band c.args.source) (sym c.self.view_is) c.requires.there in
    record { within = band_within c.self.inside.met c.self.invariant c.args.id c.args.band c.args.source c.in-Some.link.now there c.in-Some.ensures.link }

pub get-requires-2 : goal.get-requires-2
get-requires-2 c =
    let there = subst (λ (ds : List Dataset). HasSourceAt ds c.args.id c.args.band c.args.source) (sym c.self.view_is) c.requires.there in
    record { within = source_in_row c.self.inside.met c.self.invariant c.args.id c.args.band c.args.source c.in-Some.link.now there c.in-Some.ensures.link c.get.result.now c.get.ensures.item }

pub returns-clause-member : goal.returns-clause-member
returns-clause-member c =
    let there = subst (λ (ds : List Dataset). HasSourceAt ds c.args.id c.args.band c.args.source) (sym c.self.view_is) c.requires.there in
    subst (λ (ds : List Dataset). option_and_then (λ (d : Dataset). member_at ds d c.args.band c.args.source) (slice_get ds c.args.id) ≡ Some c.get-2.result.now) c.self.view_is
    (member_told c.self.inside.met c.self.invariant c.args.id c.args.band c.args.source c.in-Some.link.now there c.in-Some.ensures.link c.get.result.now c.get.ensures.item c.get-2.result.now c.get-2.ensures.item)

pub returns-clause-known : goal.returns-clause-known
returns-clause-known c =
    let there = subst (λ (ds : List Dataset). HasSourceAt ds c.args.id c.args.band c.args.source) (sym c.self.view_is) c.requires.there in
    subst (λ (ds : List Dataset). c.get-2.result.now < length ds) c.self.view_is
    (member_known c.self.inside.met c.self.invariant c.args.id c.args.band c.args.source c.in-Some.link.now there c.in-Some.ensures.link c.get.result.now c.get.ensures.item c.get-2.result.now c.get-2.ensures.item)

pub returns-clause-below : goal.returns-clause-below
returns-clause-below c =
    let there = subst (λ (ds : List Dataset). HasSourceAt ds c.args.id c.args.band c.args.source) (sym c.self.view_is) c.requires.there in
    subst (λ (ds : List Dataset). (d t : Dataset) → slice_get ds c.args.id ≡ Some d → slice_get ds c.get-2.result.now ≡ Some t → height_of ds t < height_of ds d) c.self.view_is
    (member_below c.self.inside.met c.self.invariant c.args.id c.args.band c.args.source c.in-Some.link.now there c.in-Some.ensures.link c.get.result.now c.get.ensures.item c.get-2.result.now c.get-2.ensures.item)
