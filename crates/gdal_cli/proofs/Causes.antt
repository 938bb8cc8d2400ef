-- The faults that the parts of a job end with, as those of the job.
use Rattle.std.proofs.Common.{◌≡◌, ap, refl, subst, ◌⊎◌, inl, inr, ℕ, ℤ, Bool, true, List, Result, Ok, Err, Option, Some, None, arith}
use Rattle.std.specs.Prelude.{IfOk, IfErr, IfSome, is_some}
use Rattle.geotransform.specs.declared.faults.PlanFault.{PlanFault}
use Rattle.catalog.specs.Dataset.{DatasetHead}
use Rattle.catalog.specs.declared.faults.LimitKind.{LimitKind}
use Rattle.catalog.specs.declared.faults.WalkFault.{WalkFault}
use Rattle.catalog.specs.declared.faults.WalkFault.TheVariants as walk
use Rattle.info_report.specs.declared.report.ReportFault.{ReportFault}
use Rattle.info_report.specs.declared.report.ReportFault.TheVariants as report
use Rattle.location_report.specs.declared.report.Form.{Form}
use Rattle.error_lines.specs.declared.faults.Fault.{Fault}
use Rattle.error_lines.specs.declared.faults.Fault.TheVariants.{Usage, Absent, NotRecognized, Malformed, Short, Cycle, TooDeep, Limit, SourceBand, Plan, Build, SameName, BadPoint, Changed, FolderFault, InputFault, OutFault, Memory}
use Rattle.error_lines.specs.Faults.{fault_of, report_fault_of, IsOutside, HasNoCause, IsOfReading}
use Rattle.gdal_cli.specs.declared.asked.Asked.{Asked}
use Rattle.command_words.specs.declared.command.Command.{Command}
use Rattle.command_words.specs.declared.command.Job.{Job}
use Rattle.command_words.specs.declared.command.Job.TheVariants.{Locate}
use Rattle.command_words.specs.declared.spoken.WordFault.{WordFault}
use Rattle.command_words.specs.declared.spoken.WordFault.TheVariants as word
use Rattle.gdal_cli.specs.Faults.{word_fault_of}
use Rattle.gdal_cli.specs.Input.{IsOfLines}
use Rattle.gdal_cli.specs.Location.{asked_in}
use Rattle.translation_runs.specs.Ends.{ended}
use Rattle.gdal_cli.specs.Run.{MayEnd, IsRefusal, reads_input, reads_pixels, words_make_rasters}
use Rattle.command_words.specs.Words.{IsMemory}
use Rattle.gdal_cli.proofs.Lacking.{asked_plan}
use Rattle.gdal_cli.proofs.SynthEnds.{none_made}

-- what a walk answers
pub walk_may : (job : Job) (f : WalkFault) → MayEnd job (fault_of f)
walk_may job (walk.Absent name) = tt
walk_may job (walk.NotRecognized name) = tt
walk_may job (walk.Malformed name bad) = tt
walk_may job (walk.Short name needed has) = tt
walk_may job (walk.Cycle name) = tt
walk_may job (walk.TooDeep name) = tt
walk_may job (walk.Limit what value) = tt
walk_may job (walk.SourceBand name band) = tt
walk_may job walk.FolderFault = tt
walk_may job walk.Memory = tt

-- what a report answers, which is no refusal
pub report_may : (job : Job) (f : ReportFault) → MayEnd job (report_fault_of f)
report_may job report.OutFault = tt
report_may job report.Memory = tt

pub report_refuses : (f : ReportFault) → IsRefusal (Some (report_fault_of f)) → ⊥
report_refuses report.OutFault h = absurd (omega (arith, h.refused))
report_refuses report.Memory h = absurd (omega (arith, h.refused))

-- what is asked of a dataset
outside_may : (job : Job) (f : Fault) → IsOutside f → (f ≡ InputFault → ⊥) → MayEnd job f
outside_may job (Usage n) out other = absurd out
outside_may job (Absent name) out other = absurd out
outside_may job (NotRecognized name) out other = absurd out
outside_may job (Malformed name bad) out other = absurd out
outside_may job (Short name needed has) out other = absurd out
outside_may job (Cycle name) out other = absurd out
outside_may job (TooDeep name) out other = absurd out
outside_may job (Limit what value) out other = absurd out
outside_may job (SourceBand name band) out other = absurd out
outside_may job (Plan fault) out other = absurd out
outside_may job (Build why) out other = absurd out
outside_may job (SameName name) out other = absurd out
outside_may job (BadPoint line) out other = absurd out
outside_may job (Changed name was now) out other = absurd out
outside_may job FolderFault out other = tt
outside_may job InputFault out other = absurd (other refl)
outside_may job OutFault out other = tt
outside_may job Memory out other = tt

pub asked_may : (job : Job) (form : Form) (bands : List ℕ) (geoloc : Bool) (head : DatasetHead) (f : Fault) → reads_pixels job ≡ true → IsOutside f ⊎ (asked_in form bands geoloc head ≡ Err f) → HasNoCause {T = Asked} (Err f) → MayEnd job f
asked_may job form bands geoloc head f pixels (inl out) inner = outside_may job f out (λ is. inner.not_input (ap (λ (e : Fault). Err e) is))
asked_may job form bands geoloc head f pixels (inr is) inner = let p = asked_plan form bands geoloc head f is in subst (MayEnd job) (sym_of p.1) pixels
  where
    sym_of : {p : PlanFault} → f ≡ Plan p → Plan p ≡ f
    sym_of is = cc

-- what answering ends with
pub reading_may : (job : Job) (f : Fault) → reads_pixels job ≡ true → IsOfReading f → MayEnd job f
reading_may job (Usage n) pixels h = absurd h
reading_may job (Absent name) pixels h = absurd h
reading_may job (NotRecognized name) pixels h = absurd h
reading_may job (Malformed name bad) pixels h = absurd h
reading_may job (Short name needed has) pixels h = absurd h
reading_may job (Cycle name) pixels h = absurd h
reading_may job (TooDeep name) pixels h = absurd h
reading_may job (Limit what value) pixels h = absurd h
reading_may job (SourceBand name band) pixels h = absurd h
reading_may job (Plan fault) pixels h = absurd h
reading_may job (Build why) pixels h = absurd h
reading_may job (SameName name) pixels h = absurd h
reading_may job (BadPoint line) pixels h = absurd h
reading_may job (Changed name was now) pixels h = pixels
reading_may job FolderFault pixels h = tt
reading_may job InputFault pixels h = absurd h
reading_may job OutFault pixels h = tt
reading_may job Memory pixels h = tt

lines_may : (job : Job) (f : Fault) → reads_pixels job ≡ true → reads_input job ≡ true → IsOfLines f → MayEnd job f
lines_may job (Usage n) pixels input h = absurd h
lines_may job (Absent name) pixels input h = absurd h
lines_may job (NotRecognized name) pixels input h = absurd h
lines_may job (Malformed name bad) pixels input h = absurd h
lines_may job (Short name needed has) pixels input h = absurd h
lines_may job (Cycle name) pixels input h = absurd h
lines_may job (TooDeep name) pixels input h = absurd h
lines_may job (Limit what value) pixels input h = tt
lines_may job (SourceBand name band) pixels input h = absurd h
lines_may job (Plan fault) pixels input h = absurd h
lines_may job (Build why) pixels input h = absurd h
lines_may job (SameName name) pixels input h = absurd h
lines_may job (BadPoint line) pixels input h = input
lines_may job (Changed name was now) pixels input h = pixels
lines_may job FolderFault pixels input h = tt
lines_may job InputFault pixels input h = input
lines_may job OutFault pixels input h = tt
lines_may job Memory pixels input h = tt

pub answers_may : (name : List ℕ) (point : Option (ℤ × ℤ)) (bands : List ℕ) (form : Form) (geoloc : Bool) (r : Result (Unit {0}) Fault) → IfErr r IsOfLines → (is_some point ≡ true → IfErr r IsOfReading) → IfErr r (MayEnd (Locate name point bands form geoloc))
answers_may name point bands form geoloc (Ok done) lines reading = tt
answers_may name (Some p) bands form geoloc (Err f) lines reading = reading_may (Locate name (Some p) bands form geoloc) f refl (reading refl)
answers_may name None bands form geoloc (Err f) lines reading = lines_may (Locate name None bands form geoloc) f refl refl lines

-- reading and putting is a part of answering lines
reading_line : (f : Fault) → IsOfReading f → IsOfLines f
reading_line (Usage n) h = h
reading_line (Absent name) h = h
reading_line (NotRecognized name) h = h
reading_line (Malformed name bad) h = h
reading_line (Short name needed has) h = h
reading_line (Cycle name) h = h
reading_line (TooDeep name) h = h
reading_line (Limit what value) h = absurd h
reading_line (SourceBand name band) h = h
reading_line (Plan fault) h = h
reading_line (Build why) h = h
reading_line (SameName name) h = h
reading_line (BadPoint line) h = tt
reading_line (Changed name was now) h = tt
reading_line FolderFault h = tt
reading_line InputFault h = tt
reading_line OutFault h = tt
reading_line Memory h = tt

pub readings_of_lines : (r : Result (Unit {0}) Fault) → IfErr r IsOfReading → IfErr r IsOfLines
readings_of_lines (Ok done) h = tt
readings_of_lines (Err f) h = reading_line f h

-- which is refused at a line of the input alone
line_refuses : (f : Fault) → IsOfLines f → IsRefusal (Some f) → ⊥
line_refuses (Usage n) h refusal = h
line_refuses (Absent name) h refusal = h
line_refuses (NotRecognized name) h refusal = h
line_refuses (Malformed name bad) h refusal = h
line_refuses (Short name needed has) h refusal = h
line_refuses (Cycle name) h refusal = h
line_refuses (TooDeep name) h refusal = h
line_refuses (Limit what value) h refusal = refusal.no_limit value (ap (λ (w : LimitKind). Some (Limit w value)) h)
line_refuses (SourceBand name band) h refusal = h
line_refuses (Plan fault) h refusal = h
line_refuses (Build why) h refusal = h
line_refuses (SameName name) h refusal = h
line_refuses (BadPoint line) h refusal = refusal.no_line line refl
line_refuses (Changed name was now) h refusal = absurd (omega (arith, refusal.refused))
line_refuses FolderFault h refusal = absurd (omega (arith, refusal.refused))
line_refuses InputFault h refusal = absurd (omega (arith, refusal.refused))
line_refuses OutFault h refusal = absurd (omega (arith, refusal.refused))
line_refuses Memory h refusal = absurd (omega (arith, refusal.refused))

pub lines_refuse : (r : Result (Unit {0}) Fault) → IfErr r IsOfLines → IsRefusal (ended r) → ⊥
lines_refuse (Ok done) h refusal = absurd (omega (arith, refusal.refused))
lines_refuse (Err f) h refusal = line_refuses f h refusal

-- reading is never refused
pub readings_refuse : (r : Result (Unit {0}) Fault) → IfErr r IsOfReading → IsRefusal (ended r) → ⊥
readings_refuse r h refusal = lines_refuse r (readings_of_lines r h) refusal

pub readings_may : (job : Job) (r : Result (Unit {0}) Fault) → reads_pixels job ≡ true → IfErr r IsOfReading → IfErr r (MayEnd job)
readings_may job (Ok done) pixels h = tt
readings_may job (Err f) pixels h = reading_may job f pixels h

-- words that are no command
pub words_may : (d : Result Command WordFault) (f : WordFault) → IsMemory f ⊎ (d ≡ Err f) → IfOk d (λ c. MayEnd c.job (word_fault_of f))
words_may (Ok c) word.Memory (inl free) = tt
words_may (Ok c) (word.Usage n) (inl free) = absurd free
words_may (Ok c) f (inr is) = let no : ⊥ = cc in absurd no
words_may (Err e) f h = tt

-- words that are no command make no rasters from a number
pub words_outside : (d : Result Command WordFault) (f : WordFault) → IsMemory f ⊎ (d ≡ Err f) → words_make_rasters d ≡ true → IsOutside (word_fault_of f)
words_outside (Err e) f h rasters = absurd (none_made rasters)
words_outside (Ok c) word.Memory (inl free) rasters = tt
words_outside (Ok c) (word.Usage n) (inl free) rasters = absurd free
words_outside (Ok c) f (inr is) rasters = let no : ⊥ = cc in absurd no

-- what a command ends with
pub command_may : (d : Result Command WordFault) (r : Result (Unit {0}) Fault) → IfOk d (λ c. IfErr r (MayEnd c.job)) → IfOk d (λ c. IfSome (ended r) (MayEnd c.job))
command_may (Ok c) (Ok done) h = tt
command_may (Ok c) (Err f) h = h
command_may (Err e) r h = tt
