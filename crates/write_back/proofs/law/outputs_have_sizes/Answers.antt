use Rattle.write_back.proofs.Outputs.{has_output, has_size}
use Rattle.write_back.proofs.law.outputs_have_sizes.Goals as goal

pub returns : goal.returns
returns c = record { some = has_output; bands = λ p o plan e. (has_size p o plan e).bands_are; columns = λ p o plan e. (has_size p o plan e).columns_are; lines = λ p o plan e. (has_size p o plan e).lines_are }
