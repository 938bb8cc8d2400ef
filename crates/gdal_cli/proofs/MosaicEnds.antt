-- How the making of a mosaic ends.
use Rattle.std.proofs.Common.{◌≡◌, refl, sym, subst, ℕ, Bool, List, [], ◌∷◌, Result, Ok, Err, Option, Contains, arith}
use Rattle.std.specs.Prelude.{IfErr}
use Rattle.std.proofs.lemmas.List.Elements.{Contains-get_or}
use Rattle.lists_and_answers.specs.Answers.{◌>>=◌}
use Rattle.outside.specs.Outside.{Files}
use Rattle.buildvrt.specs.Options.{Options}
use Rattle.buildvrt.specs.declared.faults.BuildFault.TheVariants as build
use Rattle.input_points.specs.declared.entry.Entry.{Entry}
use Rattle.command_words.specs.declared.command.Job.TheVariants as job
use Rattle.error_lines.specs.declared.faults.Fault.{Fault}
use Rattle.error_lines.specs.declared.faults.Fault.TheVariants.{Usage, Absent, NotRecognized, Malformed, Short, Cycle, TooDeep, Limit, SourceBand, Plan, Build, SameName, BadPoint, Changed, FolderFault, InputFault, OutFault, Memory}
use Rattle.error_lines.specs.Faults.{HasChanged, OwnsFault, fault_status}
use Rattle.mosaic_builds.specs.Built.{Built, built_in}
use Rattle.mosaic_builds.specs.Ends as mosaics
use Rattle.mosaic_builds.specs.Steps.{mosaic_done}
use Rattle.translation_runs.specs.Ends.{ended}
use Rattle.gdal_cli.specs.Run.{IsRefusal, MayEnd}
use Rattle.gdal_cli.specs.Jobs.{RefusesOnly}
use Rattle.gdal_cli.specs.Work.{Builds, build_judged, carried_out}
use Rattle.translation_runs.proofs.Ended.{no_change, refused_so}

-- what is built is done as work is
done_as : (quiet : Bool) (name : List ℕ) (m : Files) (lines : List Entry) (r : Result Built Fault) → mosaic_done quiet name r ≡ carried_out (r >>= (λ built. Ok (Builds built name quiet))) m lines
done_as quiet name m lines (Ok built) = refl
done_as quiet name m lines (Err f) = refl

pub build_done : (m : Files) (verify : Bool) (inputs : List (List ℕ)) (list : Option (List ℕ)) (options : Options) (quiet : Bool) (lines : List Entry) → mosaic_done quiet options.out (built_in m verify inputs list options) ≡ carried_out (build_judged m verify inputs list options quiet) m lines
unfolding build_judged
build_done m verify inputs list options quiet lines = done_as quiet options.out m lines (built_in m verify inputs list options)

-- what a mosaic may end with, as the job may
module _ (inputs : List (List ℕ)) (list : Option (List ℕ)) (options : Options) (quiet : Bool) where
  fault_may : (f : Fault) → mosaics.MayEnd options.out f → MayEnd (job.Build inputs list options quiet) f
  fault_may (Usage n) h = h
  fault_may (Absent name) h = tt
  fault_may (NotRecognized name) h = tt
  fault_may (Malformed name bad) h = tt
  fault_may (Short name needed has) h = tt
  fault_may (Cycle name) h = tt
  fault_may (TooDeep name) h = tt
  fault_may (Limit what value) h = tt
  fault_may (SourceBand name band) h = tt
  fault_may (Plan why) h = absurd h
  fault_may (Build why) h = refl
  fault_may (SameName name) h = subst (λ (n : List ℕ). Contains (options.out ∷ []) n) (sym h) (Contains-get_or (options.out ∷ []) 0 options.out (omega arith))
  fault_may (BadPoint line) h = absurd h
  fault_may (Changed name was now) h = absurd h
  fault_may FolderFault h = tt
  fault_may InputFault h = absurd h
  fault_may OutFault h = tt
  fault_may Memory h = tt

  pub build_may : (r : Result (Unit {0}) Fault) → IfErr r (mosaics.MayEnd options.out) → IfErr r (MayEnd (job.Build inputs list options quiet))
  build_may (Ok done) h = tt
  build_may (Err f) h = fault_may f h

-- a fault that it ended with
at_fault : (out : List ℕ) (r : Result (Unit {0}) Fault) (f : Fault) → r ≡ Err f → IfErr r (mosaics.MayEnd out) → mosaics.MayEnd out f
at_fault out r f is h = subst (λ (e : Result (Unit {0}) Fault). IfErr e (mosaics.MayEnd out)) is h

module _ (out : List ℕ) (r : Result (Unit {0}) Fault) (h : IfErr r (mosaics.MayEnd out)) where
  pub build_refuses : RefusesOnly r
  build_refuses = record {
    only = λ n is. at_fault out r (NotRecognized n) is h;
    no_usage = λ n is. at_fault out r (Usage n) is h;
  }

  pub build_owns : OwnsFault (ended r)
  build_owns = record {
    malformed = λ name bad is. at_fault out r (Malformed name bad) (refused_so r (Malformed name bad) is) h;
    build = λ is. at_fault out r (Build build.Memory) (refused_so r (Build build.Memory) is) h refl;
  }

  pub build_unchanged : (names : Option Files) → HasChanged names (ended r)
  build_unchanged names = no_change names r (λ name was now is. at_fault out r (Changed name was now) is h)

  pub build_reads_no_input : r ≡ Err InputFault → ⊥
  build_reads_no_input is = at_fault out r InputFault is h

-- a refusal is one of status 1
pub refusal_so : (r : Result (Unit {0}) Fault) (P : Type 0) → IfErr r (λ f. fault_status f ≡ 1 → P) → IsRefusal (ended r) → P
refusal_so (Ok done) P h refusal = absurd (omega (arith, refusal.refused))
refusal_so (Err f) P h refusal = h refusal.refused
