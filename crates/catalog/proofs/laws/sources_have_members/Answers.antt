use Rattle.catalog.proofs.PixelLaws.{has_member}
use Rattle.catalog.proofs.laws.sources_have_members.Goals as goal

pub returns : goal.returns
returns c = record { there = has_member }
