use Rattle.translate_plan.proofs.Documents.{shows_output}
use Rattle.translate_plan.proofs.publishing_laws.documents_show_outputs.Goals as goal

pub returns : goal.returns
returns c = record { pixel = shows_output c.related_resolves.ensures.text c.written_document_reads_back.ensures.same }
