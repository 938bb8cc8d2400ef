use Rattle.mosaic_sources.proofs.Skipped.{skipped}
use Rattle.mosaic_sources.proofs.laws.unlisted_are_skipped.Goals as goal

pub returns : goal.returns
returns c = record { skipped = skipped }
