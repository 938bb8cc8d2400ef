-- How a translation ends.
use Rattle.std.proofs.Common.{◌≡◌, ◌∙◌, ap, refl, sym, subst, ℕ, Bool, false, List, [], Result, Ok, Err}
use Rattle.std.specs.Prelude.{IfErr}
use Rattle.lists_and_answers.specs.Answers.{◌>>=◌}
use Rattle.outside.specs.Outside.{Files}
use Rattle.translate_plan.specs.Options.{Options}
use Rattle.input_points.specs.declared.entry.Entry.{Entry}
use Rattle.buildvrt.specs.declared.faults.BuildFault.TheVariants as build
use Rattle.command_words.specs.declared.command.Job.TheVariants as job
use Rattle.error_lines.specs.declared.faults.Fault.{Fault}
use Rattle.error_lines.specs.declared.faults.Fault.TheVariants.{Usage, Absent, NotRecognized, Malformed, Short, Cycle, TooDeep, Limit, SourceBand, Plan, Build, SameName, BadPoint, Changed, FolderFault, InputFault, OutFault, Memory}
use Rattle.error_lines.specs.Faults.{OwnsFault}
use Rattle.error_lines.specs.Steps.{Done, warned}
use Rattle.translation_runs.specs.Ends as translation
use Rattle.translation_runs.specs.Ends.{RefusesName, ended}
use Rattle.translation_runs.specs.Judged.{Judged, translation_done, translation_judged, translation_run}
use Rattle.translation_runs.proofs.Ended.{refused_so}
use Rattle.translation_runs.proofs.Silent.{run_silent}
use Rattle.gdal_cli.specs.Run.{MayEnd}
use Rattle.gdal_cli.specs.Jobs.{RefusesKind}
use Rattle.gdal_cli.specs.Work.{Translates, translate_judged, carried_out}

-- what is judged is done as work is
done_as : (m : Files) (out : List ℕ) (quiet : Bool) (lines : List Entry) (r : Result Judged Fault) → translation_done m out quiet r ≡ carried_out (r >>= (λ t. Ok (Translates t.dataset t.plan out quiet))) m lines
done_as m out quiet lines (Ok t) = refl
done_as m out quiet lines (Err f) = refl

module _ (m : Files) (verify : Bool) (src : List ℕ) (options : Options) (quiet : Bool) (lines : List Entry) where
  pub translate_done : translation_run m verify src options quiet ≡ carried_out (translate_judged m verify src options quiet) m lines
  unfolding translate_judged
  translate_done = done_as m options.out quiet lines (translation_judged m verify src options)

  -- a translation warns of nothing
  pub translate_silent : warned (carried_out (translate_judged m verify src options quiet) m lines).steps ≡ []
  translate_silent = ap (λ (d : Done). warned d.steps) (sym translate_done) ∙ run_silent m verify src options quiet

-- what a translation may end with, as the job may
module _ (src : List ℕ) (options : Options) (quiet : Bool) where
  fault_may : (f : Fault) → translation.MayEnd options f → MayEnd (job.Translate src options quiet) f
  fault_may (Usage n) h = h
  fault_may (Absent name) h = tt
  fault_may (NotRecognized name) h = tt
  fault_may (Malformed name bad) h = tt
  fault_may (Short name needed has) h = tt
  fault_may (Cycle name) h = tt
  fault_may (TooDeep name) h = tt
  fault_may (Limit what value) h = tt
  fault_may (SourceBand name band) h = tt
  fault_may (Plan why) h = refl
  fault_may (Build why) h = absurd h
  fault_may (SameName name) h = h
  fault_may (BadPoint line) h = absurd h
  fault_may (Changed name was now) h = refl
  fault_may FolderFault h = tt
  fault_may InputFault h = absurd h
  fault_may OutFault h = tt
  fault_may Memory h = tt

  pub translate_may : (r : Result (Unit {0}) Fault) → IfErr r (translation.MayEnd options) → IfErr r (MayEnd (job.Translate src options quiet))
  translate_may (Ok done) h = tt
  translate_may (Err f) h = fault_may f h

-- a fault that it ended with
at_fault : (o : Options) (r : Result (Unit {0}) Fault) (f : Fault) → r ≡ Err f → IfErr r (translation.MayEnd o) → translation.MayEnd o f
at_fault o r f is h = subst (λ (e : Result (Unit {0}) Fault). IfErr e (translation.MayEnd o)) is h

module _ (o : Options) (r : Result (Unit {0}) Fault) (h : IfErr r (translation.MayEnd o)) where
  pub translate_refuses : (name : List ℕ) → RefusesName name r → RefusesKind false name r
  translate_refuses name unknown = record {
    always = unknown.always;
    only = λ n is. at_fault o r (NotRecognized n) is h;
    own = λ alone. let no : ⊥ = cc in absurd no;
    file = unknown.file;
    no_usage = λ n is. at_fault o r (Usage n) is h;
  }

  pub translate_owns : OwnsFault (ended r)
  translate_owns = record {
    malformed = λ name bad is. at_fault o r (Malformed name bad) (refused_so r (Malformed name bad) is) h;
    build = λ is. at_fault o r (Build build.Memory) (refused_so r (Build build.Memory) is) h;
  }

  pub translate_reads_no_input : r ≡ Err InputFault → ⊥
  translate_reads_no_input is = at_fault o r InputFault is h
