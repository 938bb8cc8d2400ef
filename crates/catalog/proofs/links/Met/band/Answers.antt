use Rattle.std.proofs.Common.{◌∙◌, ap, sym}
use Rattle.std.specs.Prelude.{slice_get}
use Rattle.std.proofs.lemmas.Option.{slice_get_within}
use Rattle.vrt_profile.specs.Values.{DocumentValue}
use Rattle.catalog.proofs.Found.{some_is}
use Rattle.catalog.proofs.links.Met.band.Goals as goal

pub get-requires : goal.get-requires
get-requires c =
    let w = c.requires.there in
    let same = c.behind-self.view_is ∙ c.document.ensures.document w.mosaic in
    record { within = slice_get_within c.behind-self.inside.bands c.args.band w.value (ap (λ (d : DocumentValue). slice_get d.bands c.args.band) same ∙ w.band_at) }

pub returns : goal.returns
returns c = record { band = λ w. some_is (sym c.get.ensures.item ∙ ap (λ (d : DocumentValue). slice_get d.bands c.args.band) (c.behind-self.view_is ∙ c.document.ensures.document w.mosaic) ∙ w.band_at) }
