-- Words that are judged.
use Rattle.std.proofs.Common.{◌≡◌, ◌∙◌, ap, sym, subst, refl, ◌⊎◌, inl, inr, ℕ, ℤ, Bool, true, false, List, [], Result, Ok, Err, Option, Some, None}
use Rattle.lists_and_answers.specs.Answers.{◌>>=◌}
use Rattle.outside.specs.Outside.{Files}
use Rattle.outside.proofs.Sinks.{gets-none}
use Rattle.input_points.specs.declared.entry.Entry.{Entry}
use Rattle.input_points.specs.Entries.{entries}
use Rattle.error_lines.specs.declared.faults.Fault.{Fault}
use Rattle.command_words.specs.declared.command.Command.{Command}
use Rattle.command_words.specs.declared.command.Job.{Job}
use Rattle.command_words.specs.declared.command.Job.TheVariants.{Locate}
use Rattle.location_report.specs.declared.report.Form.{Form}
use Rattle.std.specs.Prelude.{is_some}
use Rattle.command_words.specs.declared.spoken.WordFault.{WordFault}
use Rattle.command_words.specs.declared.spoken.WordFault.TheVariants.{Usage, Memory}
use Rattle.gdal_cli.specs.Faults.{by_words, word_fault_of}
use Rattle.gdal_cli.specs.Run.{reads_input}
use Rattle.error_lines.specs.Steps.{Step, GoesWarning, warned}
use Rattle.command_words.specs.Words.{words_of, IsMemory}
use Rattle.gdal_cli.specs.Work.{Work, judged, judged_by, carried_out, run_over, run_of}
use Rattle.gdal_cli.proofs.Warning.{nowhere_warned}

-- a command is judged as the words that say it
pub command_judged : (words : List (List ℕ)) (command : Command) (m : Files) → words_of words ≡ Ok command → judged words m ≡ judged_by command.job command.verify m
unfolding judged
command_judged words command m is = ap (λ (e : Result Command WordFault). by_words e >>= (λ (c : Command). judged_by c.job c.verify m)) is

words_judged : (words : List (List ℕ)) (f : WordFault) (m : Files) → words_of words ≡ Err f → judged words m ≡ Err (word_fault_of f)
unfolding judged
words_judged words f m is = ap (λ (e : Result Command WordFault). by_words e >>= (λ (c : Command). judged_by c.job c.verify m)) is

-- words that are no command do nothing
pub words_go : (words : List (List ℕ)) (f : WordFault) (m : Files) (lines : List Entry) (names : Option Files) (old : Option (List ℕ)) (W : List Step → Type 0) → names ≡ Some m → ((part : List Step) → warned part ≡ [] → W part) → IsMemory f ⊎ (words_of words ≡ Err f) → GoesWarning (run_over words m lines) m (Err (word_fault_of f)) names old old W
words_go words Memory m lines names old W is silent (inl free) = nowhere_warned (run_over words m lines) m _ names old W is tt silent
words_go words (Usage n) m lines names old W is silent (inl free) = absurd free
words_go words f m lines names old W is silent (inr refused) =
    subst (λ (d : Result Work Fault). GoesWarning (carried_out d m lines) m (Err (word_fault_of f)) names old old W) (sym (words_judged words f m refused))
    (inl (refl, record { printed = gets-none old; published = is }, silent [] refl))

-- a command goes as the words that say it
pub command_goes : (words : List (List ℕ)) (command : Command) (m : Files) (lines : List Entry) (result : Result (Unit {0}) Fault) (names : Option Files) (before after : Option (List ℕ)) (W : List Step → Type 0) → words_of words ≡ Ok command → GoesWarning (carried_out (judged_by command.job command.verify m) m lines) m result names before after W → GoesWarning (run_over words m lines) m result names before after W
command_goes words command m lines result names before after W is = subst (λ (d : Result Work Fault). GoesWarning (carried_out d m lines) m result names before after W) (sym (command_judged words command m is))

-- a job of points without a point takes them from the input
pub locate_reads : (job : Job) (name : List ℕ) (point : Option (ℤ × ℤ)) (bands : List ℕ) (form : Form) (geoloc : Bool) → job ≡ Locate name point bands form geoloc → is_some point ≡ false → reads_input job ≡ true
locate_reads job name None bands form geoloc is none = ap (λ (j : Job). reads_input j) is
locate_reads job name (Some p) bands form geoloc is none = let no : ⊥ = cc in absurd no

-- two commands of the same job, which check the same, mean the same run
pub same_runs : (a b : List (List ℕ)) (c d : Command) (m : Files) (input : List ℕ) → words_of a ≡ Ok c → words_of b ≡ Ok d → c.job ≡ d.job → c.verify ≡ d.verify → run_of a m input ≡ run_of b m input
same_runs a b c d m input first second job verify =
    ap (λ (w : Result Work Fault). carried_out w m (entries input)) (command_judged a c m first)
    ∙ ap (λ (j : Job). carried_out (judged_by j c.verify m) m (entries input)) job
    ∙ ap (λ (v : Bool). carried_out (judged_by d.job v m) m (entries input)) verify
    ∙ ap (λ (w : Result Work Fault). carried_out w m (entries input)) (sym (command_judged b d m second))
