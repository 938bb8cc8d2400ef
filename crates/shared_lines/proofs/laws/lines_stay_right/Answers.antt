use Rattle.shared_lines.proofs.Kept.{looks_are_right, lines_are_right}
use Rattle.shared_lines.proofs.laws.lines_stay_right.Goals as goal

pub returns : goal.returns
returns c = record { looks = λ told cat count. looks_are_right told cat count; lines = λ told cat count. lines_are_right told cat count }
