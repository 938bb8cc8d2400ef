use Rattle.catalog.proofs.PixelLaws.{file_is_sample, file_block}
use Rattle.catalog.proofs.laws.file_pixels_are_samples.Goals as goal

pub returns : goal.returns
returns c = record { pixel = file_is_sample; block = file_block }
