use Rattle.std.proofs.Common.{◌∙◌, ap, Some}
use Rattle.std.specs.Prelude.{option_map}
use Rattle.outside.proofs.PathParts.{kept-dereferenced}
use Rattle.outside.proofs.path.ends_kept.Goals as goal

pub returns-in-Some : goal.returns-in-Some
returns-in-Some c = c.ne.ensures ∙ kept-dereferenced c.args.parts.now (Some c.in-Some.last.now) (ap (option_map (λ p. p.now)) c.in-Some.ensures.value)
