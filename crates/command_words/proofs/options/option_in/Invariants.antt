use Rattle.std.proofs.Common.{◌≡◌, drop, map}
use Rattle.command_words.specs.Options.{option_in}
use Rattle.command_words.specs.Gathered.{named}
use Rattle.command_words.proofs.options.option_in.Given as goal

abbrev pub invariant-loop-name : goal.invariant-loop-name
invariant-loop-name l = option_in (map named (drop l.name-index l.table)) l.word ≡ option_in (map named l.table) l.word
