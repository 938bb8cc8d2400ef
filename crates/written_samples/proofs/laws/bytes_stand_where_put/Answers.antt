use Rattle.written_samples.proofs.Put.{put_stands, put_len, part_beside}
use Rattle.written_samples.proofs.laws.bytes_stand_where_put.Goals as goal

pub returns : goal.returns
returns c = record { stand = λ file bytes at within. put_stands file bytes at within; len = λ file bytes at within. put_len file bytes at within; beside = λ file bytes at p n within beside. part_beside file bytes at within p n beside }
