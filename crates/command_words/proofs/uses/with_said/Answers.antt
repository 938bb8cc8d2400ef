use Rattle.std.proofs.Common.{sym, subst, Ok}
use Rattle.lists_and_answers.specs.Answers.{Gives}
use Rattle.command_words.specs.Gathered.{with_said}
use Rattle.command_words.specs.Words.{IsMemory}
use Rattle.command_words.proofs.uses.with_said.Goals as goal

pub returns-in-Input : goal.returns-in-Input
returns-in-Input c =
    subst (λ s. Gives IsMemory (λ s. s) c.with_input.result (Ok (with_said c.args.at s c.args.all))) (sym c.in-Input.is) (c.with_input.ensures c.args.at)
