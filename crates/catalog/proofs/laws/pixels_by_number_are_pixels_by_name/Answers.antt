use Rattle.catalog.proofs.PixelLaws.{number_is_name}
use Rattle.catalog.proofs.laws.pixels_by_number_are_pixels_by_name.Goals as goal

pub returns : goal.returns
returns c = record { same = number_is_name }
