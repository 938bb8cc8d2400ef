use Rattle.output_copies.proofs.texts.put_end.Goals as goal

pub returns-clause-ok : goal.returns-clause-ok
returns-clause-ok g c = rw c.progress_end_text.ensures.text at c.put_text.ensures.ok
