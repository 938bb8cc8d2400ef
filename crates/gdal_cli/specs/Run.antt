-- What is promised of a run of the program.
use Rattle.std.specs.Prelude.{ℕ, ◌≡◌, ◌⊎◌, Bool, true, false, List, [], ◌∷◌, ◌++◌, Contains, Option, Some, None, Result}
use Rattle.std.specs.Prelude.{Ok, Err}
use Rattle.outside.specs.Outside.{Files}
use Rattle.outside.specs.Causes.{Rose}
use Rattle.outside.specs.Streams.{Gets, GetsPart}
use Rattle.input_points.specs.declared.entry.Entry.{Entry}
use Rattle.input_points.specs.Entries.{ended_entries}
use Rattle.catalog.specs.Heads.{kind_in}
use Rattle.catalog.specs.declared.faults.LimitKind.TheVariants as limits
use Rattle.catalog.specs.declared.kind.Kind.{Kind}
use Rattle.catalog.specs.declared.kind.Kind.TheVariants as kinds
use Rattle.catalog.specs.declared.faults.WalkFault.TheVariants as walk
use Rattle.command_words.specs.declared.command.Command.{Command}
use Rattle.command_words.specs.declared.command.Job.{Job}
use Rattle.command_words.specs.declared.command.Job.TheVariants.{Info, Locate, Translate, Build, Synth}
use Rattle.command_words.specs.declared.spoken.WordFault.{WordFault}
use Rattle.command_words.specs.declared.spoken.WordFault.TheVariants as word
use Rattle.mosaic_builds.specs.Steps.{warns}
use Rattle.error_lines.specs.declared.faults.Fault.{Fault}
use Rattle.error_lines.specs.declared.faults.Fault.TheVariants as fault
use Rattle.error_lines.specs.declared.faults.Fault.TheVariants.{Usage, Absent, NotRecognized, Malformed, Short, Cycle}
use Rattle.error_lines.specs.declared.faults.Fault.TheVariants.{TooDeep, Limit, SourceBand, Plan, SameName, BadPoint}
use Rattle.error_lines.specs.declared.faults.Fault.TheVariants.{Changed, FolderFault, InputFault, OutFault, Memory}
use Rattle.error_lines.specs.Faults.{status_of}
use Rattle.error_lines.specs.Texts.{error_line_of}
use Rattle.error_lines.specs.Steps.{Step, Done, printed, warned, AreDone}
use Rattle.translation_runs.specs.Published.{names_written}
use Rattle.synth_runs.specs.Ends.{names_made}

-- the name of the one dataset that a job begins with; a mosaic is made of many, and rasters from a number of none
abbrev pub name_read : Job → Option (List ℕ)
name_read (Info name) = Some name
name_read (Locate name point bands form geoloc) = Some name
name_read (Translate src options quiet) = Some src
name_read (Build inputs list options quiet) = None
name_read (Synth side) = None

-- the names that a job publishes, in order
abbrev pub names_published : Job → List (List ℕ)
names_published (Info name) = []
names_published (Locate name point bands form geoloc) = []
names_published (Translate src options quiet) = names_written options
names_published (Build inputs list options quiet) = options.out ∷ []
names_published (Synth side) = names_made

-- whether a job goes to what the sources of a mosaic name
abbrev pub reads_sources : Job → Bool
reads_sources (Info name) = false
reads_sources (Locate name point bands form geoloc) = true
reads_sources (Translate src options quiet) = true
reads_sources (Build inputs list options quiet) = true
reads_sources (Synth side) = true

-- whether a job reads pixels
abbrev pub reads_pixels : Job → Bool
reads_pixels (Info name) = false
reads_pixels (Locate name point bands form geoloc) = true
reads_pixels (Translate src options quiet) = true
reads_pixels (Build inputs list options quiet) = false
reads_pixels (Synth side) = true

-- whether a job makes a mosaic
abbrev pub makes_mosaic : Job → Bool
makes_mosaic (Info name) = false
makes_mosaic (Locate name point bands form geoloc) = false
makes_mosaic (Translate src options quiet) = false
makes_mosaic (Build inputs list options quiet) = true
makes_mosaic (Synth side) = true

-- whether a job warns of the inputs that its mosaic skips
abbrev pub warns_of_inputs : Job → Bool
warns_of_inputs (Info name) = false
warns_of_inputs (Locate name point bands form geoloc) = false
warns_of_inputs (Translate src options quiet) = false
warns_of_inputs (Build inputs list options quiet) = true
warns_of_inputs (Synth side) = false

-- whether a job makes rasters from a number, whose later parts read what the earlier ones published
abbrev pub makes_rasters : Job → Bool
makes_rasters (Info name) = false
makes_rasters (Locate name point bands form geoloc) = false
makes_rasters (Translate src options quiet) = false
makes_rasters (Build inputs list options quiet) = false
makes_rasters (Synth side) = true

-- whether a job takes its points from the input
abbrev pub reads_input : Job → Bool
reads_input (Info name) = false
reads_input (Locate name None bands form geoloc) = true
reads_input (Locate name (Some point) bands form geoloc) = false
reads_input (Translate src options quiet) = false
reads_input (Build inputs list options quiet) = false
reads_input (Synth side) = false

-- the same of words; those that are no command do nothing
abbrev pub words_read_input : Result Command WordFault → Bool
words_read_input (Ok command) = reads_input command.job
words_read_input (Err fault) = false

-- whether the command that words are may warn of its inputs
abbrev pub words_warn : Result Command WordFault → Bool
words_warn (Ok command) = warns_of_inputs command.job
words_warn (Err fault) = false

-- whether the command that words are makes rasters from a number
abbrev pub words_make_rasters : Result Command WordFault → Bool
words_make_rasters (Ok command) = makes_rasters command.job
words_make_rasters (Err fault) = false

-- the names that the command of these words publishes
abbrev pub words_published : Result Command WordFault → List (List ℕ)
words_published (Ok command) = names_published command.job
words_published (Err fault) = []

-- The faults that a job may end with over every folder. The name of SameName is one that the job publishes; what is
-- asked of a dataset, and files that changed, come where pixels are read, what is wrong with inputs together where a
-- mosaic is made, and faults of the input where it is read.
abbrev pub MayEnd : Job → Fault → Type 0
MayEnd job (Usage n) = ⊥
MayEnd job (Absent name) = Unit {0}
MayEnd job (NotRecognized name) = Unit {0}
MayEnd job (Malformed name bad) = Unit {0}
MayEnd job (Short name needed has) = Unit {0}
MayEnd job (Cycle name) = Unit {0}
MayEnd job (TooDeep name) = Unit {0}
MayEnd job (Limit what value) = Unit {0}
MayEnd job (SourceBand name band) = Unit {0}
MayEnd job (Plan fault) = reads_pixels job ≡ true
MayEnd job (fault.Build why) = makes_mosaic job ≡ true
MayEnd job (SameName name) = Contains (names_published job) name
MayEnd job (BadPoint line) = reads_input job ≡ true
MayEnd job (Changed name was now) = reads_pixels job ≡ true
MayEnd job FolderFault = Unit {0}
MayEnd job InputFault = reads_input job ≡ true
MayEnd job OutFault = Unit {0}
MayEnd job Memory = Unit {0}

-- a refusal that isn't of a line of the input
pub record IsRefusal (fault : Option Fault) : Type 0 where
  pub refused : status_of fault ≡ 1
  pub no_line : (n : ℕ) → fault ≡ Some (BadPoint n) → ⊥
  pub no_limit : (n : ℕ) → fault ≡ Some (Limit limits.Points n) → ⊥

-- words that are no command are refused with their word, or for want of memory, and nothing else is
pub record RefusesWords (words : Result Command WordFault) (fault : Option Fault) : Type 0 where
  pub always : (n : ℕ) → words ≡ Err (word.Usage n) → (fault ≡ Some (Usage n)) ⊎ (fault ≡ Some Memory)
  pub only : (n : ℕ) → fault ≡ Some (Usage n) → words ≡ Err (word.Usage n)

-- A command whose dataset's name tells no kind is refused with it, or for want of memory. No name that tells a kind is
-- refused so, and another name than the dataset's only where a walk goes from it, a mosaic, through its sources.
pub record RefusesDataset (words : Result Command WordFault) (fault : Option Fault) : Type 0 where
  pub always : (c : Command) (name n : List ℕ) → words ≡ Ok c → name_read c.job ≡ Some name →
      kind_in name ≡ Err (walk.NotRecognized n) → (fault ≡ Some (NotRecognized n)) ⊎ (fault ≡ Some Memory)
  pub only : (n : List ℕ) → fault ≡ Some (NotRecognized n) → (c : Command) × (words ≡ Ok c) ×
      (kind_in n ≡ Err (walk.NotRecognized n))
  pub own : (c : Command) (name n : List ℕ) → words ≡ Ok c → name_read c.job ≡ Some name → reads_sources c.job ≡ false →
      fault ≡ Some (NotRecognized n) → kind_in name ≡ Err (walk.NotRecognized n)
  pub file : (c : Command) (name : List ℕ) (k : Kind) (n : List ℕ) → words ≡ Ok c → name_read c.job ≡ Some name →
      kind_in name ≡ Ok k → (k ≡ kinds.Vrt → ⊥) → fault ≡ Some (NotRecognized n) → ⊥

-- the answer, and all the steps
pub record Answers (r : Done) (m : Files) (fault : Option Fault) (names : Option Files) (before after : Option (List ℕ))
    : Type 0 where
  pub fault_is : fault ≡ r.fault
  pub done : AreDone r.steps m names before after

-- the error stream gets the warnings among these steps and the line of the fault, or where it fails a first part of
-- them
pub record AreTold (steps : List Step) (fault : Option Fault) (faults faults_after : ℕ) (before after : Option (List ℕ))
    : Type 0 where
  pub whole : (Rose faults faults_after → ⊥) → Gets (warned steps ++ error_line_of fault) before after
  pub part : GetsPart (warned steps ++ error_line_of fault) before after

-- Over every folder, the error stream gets warnings and the line of the fault, or where it fails a first part of them.
-- Only words that ask for a mosaic of inputs may warn, and a run that is refused never does.
pub record TellsFault (may : Bool) (fault : Option Fault) (faults faults_after : ℕ) (before after : Option (List ℕ))
    : Type 0 where
  pub warnings : List (List ℕ)
  pub whole : (Rose faults faults_after → ⊥) → Gets (warned (warns warnings) ++ error_line_of fault) before after
  pub part : GetsPart (warned (warns warnings) ++ error_line_of fault) before after
  pub none : may ≡ false → warnings ≡ []
  pub refused : IsRefusal fault → warnings ≡ []

-- The input gave a first part of its bytes. The run over the whole lines among them, which `ran` gives, isn't refused,
-- and all that it prints is printed, and nothing more.
pub record StopsBehind (ran : List Entry → Done) (input : List ℕ) (left before after : Option (List ℕ)) : Type 0 where
  pub given : List ℕ
  pub rest : List ℕ
  pub parts : input ≡ given ++ rest
  pub left_is : left ≡ Some rest
  pub not_refused : (ran (ended_entries given)).fault ≡ None
  pub answered : Gets (printed (ran (ended_entries given)).steps) before after
