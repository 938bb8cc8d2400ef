use Rattle.std.proofs.Common.{◌∙◌, sym}
use Rattle.outside.proofs.Plain.{parents_normal}
use Rattle.outside.proofs.path.is_plain_relative.Goals as goal

pub returns : goal.returns
returns c = λ plain. parents_normal c.args.text.now c.behind_parents.result.now c.requires.relative c.behind_parents.ensures.added (sym c.are_plain.ensures ∙ plain)
