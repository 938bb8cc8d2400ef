use Rattle.std.proofs.Common.{[]}
use Rattle.write_back.proofs.drafts.text_draft.Goals as goal

pub returns-in-Ok-append-clause-text : goal.returns-in-Ok-append-clause-text
returns-in-Ok-append-clause-text g c = λ m e. c.in-Ok-append.ensures.ok [] (c.in-Ok.ensures.ok.told m e)
