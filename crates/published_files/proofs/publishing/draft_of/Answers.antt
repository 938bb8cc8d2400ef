use Rattle.std.proofs.Common.{[]}
use Rattle.published_files.proofs.publishing.draft_of.Goals as goal

pub returns-in-Ok-append-clause-text : goal.returns-in-Ok-append-clause-text
returns-in-Ok-append-clause-text g c = λ m told. c.in-Ok-append.ensures.ok [] (c.in-Ok.ensures.ok.told m told)
