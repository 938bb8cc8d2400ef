use Rattle.std.proofs.Common.{◌≡◌, ◌++◌, take}
use Rattle.lists_and_answers.specs.Texts.{joined}
use Rattle.lists_and_answers.proofs.texts.push_all.Given as goal

-- what was appended so far
abbrev pub invariant-loop-part : goal.invariant-loop-part
invariant-loop-part l = l.out.items ≡ l.fn.out.items ++ joined (take l.part-index l.parts)
