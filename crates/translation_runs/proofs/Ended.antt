-- How translations end.
use Rattle.std.proofs.Common.{◌≡◌, ap, refl, sym, subst, ◌⊎◌, inl, inr, ℕ, List, Result, Ok, Err, Option, Some, None, arith}
use Rattle.std.specs.Prelude.{IfErr}
use Rattle.outside.specs.Outside.{Files}
use Rattle.catalog.specs.Drivers.{Dataset}
use Rattle.catalog.specs.Heads.{OwnsFaults}
use Rattle.catalog.specs.Walk.{TellsKinds, WalksUnknown}
use Rattle.catalog.specs.declared.faults.WalkFault.{WalkFault}
use Rattle.catalog.specs.declared.faults.WalkFault.TheVariants as walk
use Rattle.geotransform.specs.declared.faults.PlanFault.{PlanFault}
use Rattle.translate_plan.specs.Options.{Options}
use Rattle.translate_plan.specs.Plan.{Planned}
use Rattle.published_files.specs.Names.{unless_read}
use Rattle.published_files.proofs.Same.{same_name}
use Rattle.error_lines.specs.declared.faults.Fault.{Fault}
use Rattle.error_lines.specs.declared.faults.Fault.TheVariants.{NotRecognized, Plan, SameName, Changed, FolderFault, OutFault, Memory}
use Rattle.error_lines.specs.Faults.{fault_of, fault_status, Differs, HasChanged, IsOfReading}
use Rattle.translation_runs.specs.Ends.{MayEnd, RefusesName, ended}
use Rattle.translation_runs.specs.Judged.{by_plan}
use Rattle.translation_runs.specs.Published.{names_written}

-- a walk that was refused, and a translation that ended so
abbrev refused_walk : WalkFault → Result ℕ WalkFault
refused_walk f = Err f

abbrev failed : WalkFault → Result (Unit {0}) Fault
failed f = Err (fault_of f)

-- a call that ended with a fault was refused so
pub refused_so : (result : Result (Unit {0}) Fault) (f : Fault) → ended result ≡ Some f → result ≡ Err f
refused_so (Ok done) f is = let no : ⊥ = cc in absurd no
refused_so (Err e) f is = let same : e ≡ f = cc in ap Err same

module _ (o : Options) where
  -- a translation may end with what the walk answers
  pub walk_may : (f : WalkFault) → TellsKinds (refused_walk f) → OwnsFaults (refused_walk f) → MayEnd o (fault_of f)
  walk_may (walk.Absent name) tells owns = tt
  walk_may (walk.NotRecognized name) tells owns = tells name refl
  walk_may (walk.Malformed name bad) tells owns = owns name bad refl
  walk_may (walk.Short name needed has) tells owns = tt
  walk_may (walk.Cycle name) tells owns = tt
  walk_may (walk.TooDeep name) tells owns = tt
  walk_may (walk.Limit what value) tells owns = tt
  walk_may (walk.SourceBand name band) tells owns = tt
  walk_may walk.FolderFault tells owns = tt
  walk_may walk.Memory tells owns = tt

  -- with a refusal of the plan
  pub plan_may : (d : Result Planned PlanFault) (f : Fault) → Err f ≡ by_plan d → MayEnd o f
  plan_may (Ok p) f is = let no : ⊥ = cc in absurd no
  plan_may (Err e) f is = let one : f ≡ Plan e = cc in subst (MayEnd o) (sym one) tt

  -- with a name that is read
  pub same_may : (cat : List Dataset) (f : Fault) → (f ≡ Memory) ⊎ (unless_read cat (names_written o) ≡ Err f) → MayEnd o f
  same_may cat f (inl is) = subst (MayEnd o) (sym is) tt
  same_may cat f (inr is) = let one = same_name cat (names_written o) f is in subst (MayEnd o) (sym one.1) one.2

  -- and with what the work ends with
  reading_may : (f : Fault) → IsOfReading f → MayEnd o f
  reading_may (Changed name was now) h = tt
  reading_may FolderFault h = tt
  reading_may OutFault h = tt
  reading_may Memory h = tt
  reading_may f h = absurd h

  pub readings_may : (r : Result (Unit {0}) Fault) → IfErr r IsOfReading → IfErr r (MayEnd o)
  readings_may (Ok done) h = tt
  readings_may (Err f) h = reading_may f h

-- which is no refusal
no_refusal : (f : Fault) (P : Type 0) → IsOfReading f → fault_status f ≡ 1 → P
no_refusal (Changed name was now) P h refusal = absurd (omega (arith, refusal))
no_refusal FolderFault P h refusal = absurd (omega (arith, refusal))
no_refusal OutFault P h refusal = absurd (omega (arith, refusal))
no_refusal Memory P h refusal = absurd (omega (arith, refusal))
no_refusal f P h refusal = absurd h

pub readings_refuse : (r : Result (Unit {0}) Fault) (P : Type 0) → IfErr r IsOfReading → IfErr r (λ f. fault_status f ≡ 1 → P)
readings_refuse (Ok done) P h = tt
readings_refuse (Err f) P h = no_refusal f P h

-- a folder that is none that tells its names
untold : (names : Option Files) → ((m : Files) → names ≡ Some m → ⊥) → names ≡ None
untold None never = refl
untold (Some m) never = absurd (never m refl)

-- a call that answers over told names no change
pub has_changed : (names : Option Files) (r : Result (Unit {0}) Fault) → Differs r → ((m : Files) → names ≡ Some m → (name : List ℕ) (was : ℕ) (now : Option ℕ) → r ≡ Err (Changed name was now) → ⊥) → HasChanged names (ended r)
has_changed names r differs never = record {
  untold = λ name was now is. untold names (λ m told. never m told name was now (refused_so r (Changed name was now) is));
  differs = λ name was now is. differs name was now (refused_so r (Changed name was now) is);
}

-- a call that answers no change
pub no_change : (names : Option Files) (r : Result (Unit {0}) Fault) → ((name : List ℕ) (was : ℕ) (now : Option ℕ) → r ≡ Err (Changed name was now) → ⊥) → HasChanged names (ended r)
no_change names r never = record {
  untold = λ name was now is. absurd (never name was now (refused_so r (Changed name was now) is));
  differs = λ name was now is same. never name was now (refused_so r (Changed name was now) is);
}

-- a walk that was refused refuses a name of no kind as the walk does
walk_one : (f : WalkFault) (n : List ℕ) → failed f ≡ Err (NotRecognized n) → f ≡ walk.NotRecognized n
walk_one (walk.Absent name) n is = let no : ⊥ = cc in absurd no
walk_one (walk.NotRecognized name) n is = let one : name ≡ n = cc in ap walk.NotRecognized one
walk_one (walk.Malformed name bad) n is = let no : ⊥ = cc in absurd no
walk_one (walk.Short name needed has) n is = let no : ⊥ = cc in absurd no
walk_one (walk.Cycle name) n is = let no : ⊥ = cc in absurd no
walk_one (walk.TooDeep name) n is = let no : ⊥ = cc in absurd no
walk_one (walk.Limit what value) n is = let no : ⊥ = cc in absurd no
walk_one (walk.SourceBand name band) n is = let no : ⊥ = cc in absurd no
walk_one walk.FolderFault n is = let no : ⊥ = cc in absurd no
walk_one walk.Memory n is = let no : ⊥ = cc in absurd no

pub walk_refuses : (name : List ℕ) (f : WalkFault) → WalksUnknown {T = ℕ} name (Err f) → RefusesName name (failed f)
walk_refuses name f unknown = record {
  always = λ e kind. by e (unknown.always e kind);
  file = λ k n kind other is. unknown.file k n kind other (ap (λ (e : WalkFault). refused_walk e) (walk_one f n is));
}
  where
    by : (e : WalkFault) → (refused_walk f ≡ Err e) ⊎ (refused_walk f ≡ Err walk.Memory) → (failed f ≡ Err (fault_of e)) ⊎ (failed f ≡ Err Memory)
    by e (inl is) = let one : f ≡ e = cc in inl (ap (λ (x : WalkFault). failed x) one)
    by e (inr is) = let one : f ≡ walk.Memory = cc in inr (ap (λ (x : WalkFault). failed x) one)

-- behind a walk that was answered a translation refuses no name so, as long as it ends with nothing of the kind
pub behind_walk : (name : List ℕ) (id : ℕ) (r : Result (Unit {0}) Fault) → WalksUnknown {T = ℕ} name (Ok id) → ((n : List ℕ) → r ≡ Err (NotRecognized n) → ⊥) → RefusesName name r
behind_walk name id r unknown never = record {
  always = λ e kind. absurd (by e (unknown.always e kind));
  file = λ k n kind other is. never n is;
}
  where
    answered : Result ℕ WalkFault
    answered = Ok id

    by : (e : WalkFault) → (answered ≡ Err e) ⊎ (answered ≡ Err walk.Memory) → ⊥
    by e (inl is) = cc
    by e (inr is) = cc

pub plan_recognizes : (d : Result Planned PlanFault) (f : Fault) (n : List ℕ) → Err f ≡ by_plan d → f ≡ NotRecognized n → ⊥
plan_recognizes (Ok p) f n is so = let no : ⊥ = cc in no
plan_recognizes (Err e) f n is so = let one : f ≡ Plan e = cc in cc

pub same_recognizes : (cat : List Dataset) (names : List (List ℕ)) (f : Fault) (n : List ℕ) → (f ≡ Memory) ⊎ (unless_read cat names ≡ Err f) → f ≡ NotRecognized n → ⊥
same_recognizes cat names f n (inl is) so = cc
same_recognizes cat names f n (inr is) so = let one = same_name cat names f is in is_same one.0 one.1
  where
    is_same : (n' : List ℕ) → f ≡ SameName n' → ⊥
    is_same n' other = cc

pub reading_recognizes : (r : Result (Unit {0}) Fault) (n : List ℕ) → IfErr r IsOfReading → r ≡ Err (NotRecognized n) → ⊥
reading_recognizes r n h is = subst (λ (e : Result (Unit {0}) Fault). IfErr e IsOfReading) is h
