use Rattle.synth_runs.proofs.NeverRefused.{never_refused}
use Rattle.synth_runs.proofs.laws.numbers_are_never_refused.Goals as goal

pub returns : goal.returns
returns c = record { fault = never_refused c.written_document_reads_back.ensures.same }
