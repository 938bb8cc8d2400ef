-- The words of a command line: the command that they are, or the first that doesn't fit.
use Rattle.std.specs.Prelude.{ℕ, List, [], ◌∷◌, length, Result, Ok, Err, ok_or}
use Rattle.lists_and_answers.specs.Answers.{◌>>=◌}
use Rattle.command_words.specs.declared.command.Command.{Command}
use Rattle.command_words.specs.declared.spoken.Spoken.{Spoken}
use Rattle.command_words.specs.declared.spoken.WordFault.{WordFault}
use Rattle.command_words.specs.declared.spoken.WordFault.TheVariants.{Usage, Memory}
use Rattle.command_words.specs.declared.options.Tool.{Tool}
use Rattle.command_words.specs.Options.{tool_of}
use Rattle.command_words.specs.Uses.{spoken_in}
use Rattle.command_words.specs.Jobs.{job_of}

-- the command that all words are, of which there are so many, by what they say
unfoldable pub command_of : Tool → ℕ → Spoken → Result Command WordFault
command_of tool count s = do
  job ← job_of tool count s
  Ok (record { job = job; verify = s.verify; blocks = s.blocks; workers = s.workers })

-- the command, or the number of the first word that doesn't fit, or the number of words where one is missing
unfoldable pub words_of : List (List ℕ) → Result Command WordFault
words_of [] = Err (Usage 0)
words_of (word ∷ words) = do
  tool ← ok_or (tool_of word) (Usage 0)
  spoken ← spoken_in tool (length (word ∷ words)) words
  command_of tool (length (word ∷ words)) spoken

-- want of memory, which no definition gives
abbrev pub IsMemory : WordFault → Type 0
IsMemory Memory = Unit {0}
IsMemory (Usage word) = ⊥
