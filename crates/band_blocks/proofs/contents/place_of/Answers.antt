use Rattle.band_blocks.proofs.Samples.{short_side}
use Rattle.band_blocks.proofs.contents.place_of.Goals as goal

pub item_place-requires-clause-short : goal.item_place-requires-clause-short
item_place-requires-clause-short c = short_side c.args.driver.now c.in-Hgt.side c.requires.long.0 c.in-Hgt.is c.requires.long.1
