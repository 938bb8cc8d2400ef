use Rattle.mosaic_sources.proofs.OfLines.{listed_there, unlisted_none}
use Rattle.mosaic_sources.proofs.laws.unlisted_give_none.Goals as goal

pub returns : goal.returns
returns c = record { below = listed_there; none = unlisted_none }
