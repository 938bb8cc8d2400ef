use Rattle.catalog.proofs.PixelLaws.{mosaic_is_of_members, own_members, mosaic_is_of_its_members, mosaic_block}
use Rattle.catalog.proofs.laws.mosaic_pixels_are_of_sources.Goals as goal

pub returns : goal.returns
returns c = record { pixel = mosaic_is_of_members; members = own_members; own = mosaic_is_of_its_members; block = mosaic_block }
