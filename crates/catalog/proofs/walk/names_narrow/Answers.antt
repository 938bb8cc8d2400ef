use Rattle.std.proofs.Common.{◌∙◌, ap, sym}
use Rattle.std.proofs.lemmas.Option.{slice_get_within}
use Rattle.catalog.specs.Walk.{band_named, is_narrow_band}
use Rattle.catalog.proofs.Found.{found, named_at}
use Rattle.catalog.proofs.walk.names_narrow.Goals as goal

pub is_narrow-requires : goal.is_narrow-requires
is_narrow-requires c =
    let f = found c.args.met.now.datasets c.args.wanted.now.name c.args.member c.requires.number in
    record { known = slice_get_within c.args.met.now.datasets c.args.member f.dataset f.at }

pub returns : goal.returns
returns c =
    let cat = c.args.met.now.datasets in
    let f = found cat c.args.wanted.now.name c.args.member c.requires.number in
    let named = named_at cat c.args.wanted.now.name c.args.member f.dataset c.requires.number f.at in
    record { narrow = c.is_narrow.ensures.narrow f.dataset f.at ∙ ap (λ o. is_narrow_band (band_named o c.args.wanted.now.band)) (sym named) }
