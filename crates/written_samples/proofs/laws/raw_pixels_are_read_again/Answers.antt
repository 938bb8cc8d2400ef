use Rattle.written_samples.proofs.RawRuns.{pixel_read, pixel_others}
use Rattle.written_samples.proofs.laws.raw_pixels_are_read_again.Goals as goal

pub returns : goal.returns
returns c = record { read = pixel_read; others = pixel_others }
