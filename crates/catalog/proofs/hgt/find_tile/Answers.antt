use Rattle.std.proofs.Common.{◌∙◌, sym}
use Rattle.catalog.proofs.Datasets.{tile_fits}
use Rattle.catalog.proofs.hgt.find_tile.Goals as goal

pub returns-in-Some-clause-fits : goal.returns-in-Some-clause-fits
returns-in-Some-clause-fits g c = tile_fits c.args.name.now c.in-Some.side c.len-length.result (sym c.is_tile_name.ensures ∙ c.if-not-is_tile_name.false) c.in-Some.ensures.known c.in-Some.ensures.side
