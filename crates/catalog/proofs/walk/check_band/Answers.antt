use Rattle.std.proofs.Common.{arith}
use Rattle.std.proofs.lemmas.Option.{slice_get_within}
use Rattle.catalog.proofs.Found.{found}
use Rattle.catalog.proofs.Meets.{band_there}
use Rattle.catalog.proofs.walk.check_band.Goals as goal

pub band_count-requires : goal.band_count-requires
band_count-requires c =
    let f = found c.args.met.now.datasets c.args.wanted.now.name c.args.member c.requires.number in
    record { known = slice_get_within c.args.met.now.datasets c.args.member f.dataset f.at }

pub returns-clause-told : goal.returns-clause-told
returns-clause-told c =
    let f = found c.args.met.now.datasets c.args.wanted.now.name c.args.member c.requires.number in
    let bands = c.band_count.ensures.bands f.dataset f.at in
    let few = c.if-wanted-band_count.false in
    band_there c.args.met.now.datasets c.args.wanted.now.name c.args.member f.dataset c.args.wanted.now.band c.requires.number f.at (omega arith)
