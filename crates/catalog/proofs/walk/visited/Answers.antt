use Rattle.std.proofs.Common.{◌∙◌, ◌-◌, ◌<◌, ap, sym, refl, length, List, arith}
use Rattle.std.specs.Prelude.{slice_get}
use Rattle.std.proofs.lemmas.Option.{slice_get_within}
use Rattle.vrt_profile.specs.Values.{SourceValue, BandValue}
use Rattle.catalog.proofs.Found.{some_is}
use Rattle.catalog.proofs.Same.{again_at, again_there}
use Rattle.catalog.proofs.walk.visited.Goals as goal

pub get-requires : goal.get-requires
get-requires c =
    let same = ap (λ (b : BandValue). b.sources) (c.behind-met.view_is ∙ c.band.ensures.band c.requires.there.of) in
    let there : c.args.at.source < length c.behind-met.inside.sources = slice_get_within c.behind-met.inside.sources c.args.at.source c.requires.there.value (ap (λ (ss : List SourceValue). slice_get ss c.args.at.source) same ∙ c.requires.there.source_at) in
    record { within = omega arith }

pub get-requires-2 : goal.get-requires-2
get-requires-2 c =
    let same = ap (λ (b : BandValue). b.sources) (c.behind-met.view_is ∙ c.band.ensures.band c.requires.there.of) in
    record { within = slice_get_within c.behind-met.inside.sources c.args.at.source c.requires.there.value (ap (λ (ss : List SourceValue). slice_get ss c.args.at.source) same ∙ c.requires.there.source_at) }

pub returns : goal.returns
returns c = record {
  again = λ room g w.
      let same = ap (λ (b : BandValue). b.sources) (c.behind-met.view_is ∙ c.band.ensures.band g.there.of) in
      let before : c.len-count.result - 1 < c.args.at.source = omega arith in
      let e = c.if-not-is_same_band.ensures in
      let is = some_is (sym c.get-2.ensures.item ∙ ap (λ (ss : List SourceValue). slice_get ss c.args.at.source) same ∙ g.there.source_at) in
      again_there c.args.met.now room c.args.at.id c.args.at.band c.args.at.source g.there w c.get-3.result.now
      (again_at c.args.met.now room c.args.at.id c.args.at.band c.args.at.source c.args.row.now g c.behind-met.inside.sources c.get.result.now c.get-2.result.now (c.len-count.result - 1) c.get-3.result.now same before c.get.ensures.item is (e.relative refl) (e.file refl) (e.band refl) (e.plain refl) c.get-3.ensures.item);
}
