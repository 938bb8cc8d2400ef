use Rattle.std.proofs.Common.{◌∙◌, ap, sym}
use Rattle.command_words.specs.Options.{own_option_of}
use Rattle.command_words.proofs.options.own_option_of.Goals as goal

pub returns-in-Build : goal.returns-in-Build
unfolding own_option_of
returns-in-Build c = c.option_in-in-Build.ensures ∙ sym (ap (λ t. own_option_of t c.args.word.now) c.in-Build.is)
