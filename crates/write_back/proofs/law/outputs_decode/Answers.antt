use Rattle.write_back.proofs.HeldFiles.{files_held}
use Rattle.write_back.proofs.Readings.{output_decoded}
use Rattle.write_back.proofs.law.outputs_decode.Goals as goal

pub returns : goal.returns
returns c = record { held = files_held; decoded = output_decoded }
