use Rattle.mosaic_sources.proofs.Passing.{rises}
use Rattle.mosaic_sources.proofs.laws.lists_rise.Goals as goal

pub returns : goal.returns
returns c = record { rising = rises }
