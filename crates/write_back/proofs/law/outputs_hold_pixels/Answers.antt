use Rattle.write_back.proofs.Outputs.{pixel_writable, sample_held}
use Rattle.write_back.proofs.law.outputs_hold_pixels.Goals as goal

pub returns : goal.returns
returns c = record { samples = sample_held; pixels = pixel_writable }
