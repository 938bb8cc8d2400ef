use Rattle.std.proofs.Common.{[]}
use Rattle.synthetic_files.proofs.drafts.text_draft.Goals as goal

pub returns-in-Ok-clause-text : goal.returns-in-Ok-clause-text
returns-in-Ok-clause-text g c = λ m told. c.in-Ok.ensures.ok [] (c.in_ok-draft.ensures.ok.told m told)
