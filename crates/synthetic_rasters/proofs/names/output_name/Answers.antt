use Rattle.std.proofs.Common.{◌∙◌}
use Rattle.synthetic_rasters.proofs.Named.{output_normal, if_ok}
use Rattle.synthetic_rasters.proofs.names.output_name.Goals as goal

pub returns : goal.returns
returns c = record { name = if_ok c.named.result _ _ (λ name is. is ∙ output_normal) c.named.ensures.name }
