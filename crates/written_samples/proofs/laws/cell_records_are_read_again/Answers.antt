use Rattle.written_samples.proofs.CellRecords.{record_column, record_read, record_others, front_stays, head_again}
use Rattle.written_samples.proofs.laws.cell_records_are_read_again.Goals as goal

pub returns : goal.returns
returns c = record { column = λ h file x samples put. record_column h file x samples put; read = λ h file x y samples put less. record_read h file x samples put y less; others = λ h file x u v samples put other less. record_others h file x samples put u v other less; front = λ h file x samples put. front_stays h file x samples put; head = λ h file x samples put is. head_again h file x samples put is }
