use Rattle.strip_copies.proofs.Sources.{sources_known}
use Rattle.strip_copies.proofs.laws.plans_are_translations.Goals as goal

pub returns : goal.returns
returns c = record {
  translation = λ cat id d o p at options planned. record { dataset = d; at = at; sources = sources_known o d.head p options planned };
}
