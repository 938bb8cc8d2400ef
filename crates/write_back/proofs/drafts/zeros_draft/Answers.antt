use Rattle.std.proofs.Common.{[], Some, replicate, ap, ◌∙◌, arith}
use Rattle.write_back.proofs.drafts.zeros_draft.Goals as goal

pub returns-in-Ok-grow-clause-zeros : goal.returns-in-Ok-grow-clause-zeros
returns-in-Ok-grow-clause-zeros g c = λ m e. c.in-Ok-grow.ensures.ok [] (c.in-Ok.ensures.ok.told m e) ∙ ap (λ n. Some (replicate n 0)) (omega arith)
