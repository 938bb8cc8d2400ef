use Rattle.esri_hdr.proofs.Heads.{plain_is_head}
use Rattle.esri_hdr.proofs.law.plain_heads_are_heads.Goals as goal

pub returns : goal.returns
returns c = record { rules = plain_is_head }
