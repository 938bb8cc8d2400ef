use Rattle.esri_hdr.proofs.HeadAgain.{hdr_again}
use Rattle.esri_hdr.proofs.law.written_reads_back.Goals as goal

pub returns : goal.returns
returns c = record { same = hdr_again }
