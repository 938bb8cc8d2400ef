-- Faults of words as those of a run, and the faults that its parts may end with.
use Rattle.std.specs.Prelude.{Result, Ok, Err}
use Rattle.command_words.specs.declared.spoken.WordFault.{WordFault}
use Rattle.command_words.specs.declared.spoken.WordFault.TheVariants as word
use Rattle.error_lines.specs.declared.faults.Fault.{Fault}
use Rattle.error_lines.specs.declared.faults.Fault.TheVariants.{Usage, Memory}

-- a fault of the words as a fault of the run
abbrev pub word_fault_of : WordFault → Fault
word_fault_of (word.Usage n) = Usage n
word_fault_of word.Memory = Memory

-- what the words say, as the run's answer
abbrev pub by_words : {T : Type 0} → Result T WordFault → Result T Fault
by_words (Ok x) = Ok x
by_words (Err f) = Err (word_fault_of f)
