use Rattle.output_copies.proofs.progress.put_progress.Goals as goal

pub returns-clause-ok : goal.returns-clause-ok
returns-clause-ok g c = rw c.progress_text.ensures.text at c.put_text.ensures.ok
