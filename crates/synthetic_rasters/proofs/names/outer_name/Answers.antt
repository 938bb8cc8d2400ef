use Rattle.std.proofs.Common.{◌∙◌}
use Rattle.synthetic_rasters.proofs.Named.{outer_normal, if_ok}
use Rattle.synthetic_rasters.proofs.names.outer_name.Goals as goal

pub returns : goal.returns
returns c = record { name = if_ok c.named.result _ _ (λ name is. is ∙ outer_normal) c.named.ensures.name }
