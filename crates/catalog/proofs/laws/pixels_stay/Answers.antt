use Rattle.catalog.proofs.PixelLaws.{more_is_same, more_block}
use Rattle.catalog.proofs.laws.pixels_stay.Goals as goal

pub returns : goal.returns
returns c = record { pixel = more_is_same; block = more_block }
