use Rattle.std.proofs.Common.{◌≡◌, ℕ, List, ◌++◌, take}
use Rattle.std.specs.Str.Lines.{lines}
use Rattle.lists_and_answers.specs.Texts.{joined}
use Rattle.input_points.specs.Reading.{coming}
use Rattle.input_points.proofs.laws.read_pieces.Given as goal

-- what is given and what is still to come
abbrev pub invariant-loop-piece : goal.invariant-loop-piece
invariant-loop-piece l = (more : List ℕ) → l.out ++ coming lines l.reader more ≡ l.fn.out ++ coming lines l.fn.reader (joined (take l.piece-index l.pieces) ++ more)
