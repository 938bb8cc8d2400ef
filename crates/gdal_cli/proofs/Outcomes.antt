-- How a run answers, by how its job ended.
use Rattle.std.proofs.Common.{◌≡◌, ◌∙◌, ap, sym, subst, ◌⊎◌, inl, inr, ◌≤◌, ℕ, zero, suc, Bool, true, false, List, length, refl, arith, Result, Ok, Err, Option, Some, None}
use Rattle.std.specs.Prelude.{IfErr, IfSome, IsSome}
use Rattle.outside.specs.Outside.{Files}
use Rattle.outside.specs.Streams.{Gets, GetsPart}
use Rattle.outside.specs.Causes.{HasCause, Rose}
use Rattle.outside.proofs.Sinks.{gets-none}
use Rattle.error_lines.specs.declared.faults.Fault.{Fault}
use Rattle.error_lines.specs.declared.faults.Fault.TheVariants.{Usage, Absent, NotRecognized, Malformed, Short, Cycle, TooDeep, Limit, SourceBand, Plan, Build, SameName, BadPoint, Changed, FolderFault, InputFault, OutFault, Memory}
use Rattle.error_lines.specs.Faults.{IsOutside, HasCauses, fault_status, status_of}
use Rattle.translation_runs.specs.Ends.{ended}
use Rattle.gdal_cli.specs.Run.{Answers, IsRefusal}
use Rattle.gdal_cli.specs.Jobs.{Ends}
use Rattle.error_lines.specs.Steps.{Step, Done, prints, printed, applied, cut_short, IsFirstPart, AreDone, Goes}
use Rattle.gdal_cli.proofs.Cuts.{cut_none, cut_whole, prints_cut, prints_done}

-- a fault of the outside ends a run with status 2 or 3
pub outside_status : (f : Fault) → IsOutside f → 2 ≤ fault_status f
outside_status (Usage n) out = absurd out
outside_status (Absent name) out = absurd out
outside_status (NotRecognized name) out = absurd out
outside_status (Malformed name bad) out = absurd out
outside_status (Short name needed has) out = absurd out
outside_status (Cycle name) out = absurd out
outside_status (TooDeep name) out = absurd out
outside_status (Limit what value) out = absurd out
outside_status (SourceBand name band) out = absurd out
outside_status (Plan fault) out = absurd out
outside_status (Build why) out = absurd out
outside_status (SameName name) out = absurd out
outside_status (BadPoint line) out = absurd out
outside_status (Changed name was now) out = absurd out
outside_status FolderFault out = omega arith
outside_status InputFault out = omega arith
outside_status OutFault out = omega arith
outside_status Memory out = omega arith

-- nothing was done
pub nothing_done : (steps : List Step) (m : Files) (names : Option Files) (old : Option (List ℕ)) → names ≡ Some m → AreDone (cut_short 0 0 steps) m names old old
nothing_done steps m names old is =
    let none = cut_none steps in
    record {
      printed = subst (λ (t : List ℕ). Gets t old old) (sym none.0) (gets-none old);
      published = is ∙ ap (λ (files : List (List ℕ × List ℕ)). Some (applied files m)) (sym none.1);
    }

-- the outside failed before the first step, or the run was refused
pub goes_nowhere : (r : Done) (m : Files) (f : Fault) (names : Option Files) (old : Option (List ℕ)) → names ≡ Some m → IsOutside f → Goes r m (Err f) names old old
goes_nowhere r m f names old is out = inr (out, (cut_short 0 0 r.steps, (0, 0, refl), nothing_done r.steps m names old is))

-- where the texts of a run that prints were put, its steps were done
pub printing_goes : (r : Done) (texts : List (List ℕ)) (result : Result (Unit {0}) Fault) (m : Files) (names : Option Files) (before after : Option (List ℕ)) → r.steps ≡ prints texts → names ≡ Some m → Ends r result before after → Goes r m result names before after
printing_goes r texts result m names before after steps is ends = by result ends
  where
    all : Gets (printed r.steps) before after → AreDone r.steps m names before after
    all got = subst (λ (s : List Step). AreDone s m names before after) (sym steps) (prints_done texts m names before after is (subst (λ (s : List Step). Gets (printed s) before after) steps got))

    some : GetsPart (printed r.steps) before after → (part : List Step) × IsFirstPart part r.steps × AreDone part m names before after
    some got =
        let at = prints_cut texts m names before after is (subst (λ (s : List Step). GetsPart (printed s) before after) steps got) in
        (cut_short at.0 at.1 r.steps, (at.0, at.1, refl), subst (λ (s : List Step). AreDone (cut_short at.0 at.1 s) m names before after) (sym steps) at.2)

    by : (e : Result (Unit {0}) Fault) → Ends r e before after → Goes r m e names before after
    by (Ok done) h = (h.0, all h.1)
    by (Err f) (inl h) = inl (h.0, all h.1)
    by (Err f) (inr h) = inr (h.0, some h.1)

-- where the status is 0 or 1, the answer is the definition's
pub answered : (r : Done) (result : Result (Unit {0}) Fault) (m : Files) (names : Option Files) (before after : Option (List ℕ)) → status_of (ended result) ≤ 1 → Goes r m result names before after → Answers r m (ended result) names before after
answered r (Ok done) m names before after low h = record { fault_is = sym h.0; done = h.1 }
answered r (Err f) m names before after low (inl h) = record { fault_is = sym h.0; done = h.1 }
answered r (Err f) m names before after low (inr h) = let high = outside_status f h.0 in absurd (omega arith)

-- where it is 2 or 3, the first of the steps were done
pub ended_early : (r : Done) (result : Result (Unit {0}) Fault) (m : Files) (names : Option Files) (before after : Option (List ℕ)) → 2 ≤ status_of (ended result) → Goes r m result names before after → (part : List Step) × IsFirstPart part r.steps × AreDone part m names before after
ended_early r (Ok done) m names before after high h = absurd (omega arith)
ended_early r (Err f) m names before after high (inl h) = (r.steps, (length r.steps, 0, sym (cut_whole 0 r.steps)), h.1)
ended_early r (Err f) m names before after high (inr h) = h.1

-- a fault of the outside where no count rose is want of memory
only_memory : (f : Fault) (folder folder_now input input_now out out_now : ℕ) → IsOutside f → HasCauses {T = Unit {0}} folder folder_now out out_now (Err f) → HasCause {T = Unit {0}} InputFault input input_now (Err f) → (Rose folder folder_now → ⊥) → (Rose input input_now → ⊥) → (Rose out out_now → ⊥) → f ≡ Memory
only_memory (Usage n) a b c d e g out causes cause calm full still = absurd out
only_memory (Absent name) a b c d e g out causes cause calm full still = absurd out
only_memory (NotRecognized name) a b c d e g out causes cause calm full still = absurd out
only_memory (Malformed name bad) a b c d e g out causes cause calm full still = absurd out
only_memory (Short name needed has) a b c d e g out causes cause calm full still = absurd out
only_memory (Cycle name) a b c d e g out causes cause calm full still = absurd out
only_memory (TooDeep name) a b c d e g out causes cause calm full still = absurd out
only_memory (Limit what value) a b c d e g out causes cause calm full still = absurd out
only_memory (SourceBand name band) a b c d e g out causes cause calm full still = absurd out
only_memory (Plan fault) a b c d e g out causes cause calm full still = absurd out
only_memory (Build why) a b c d e g out causes cause calm full still = absurd out
only_memory (SameName name) a b c d e g out causes cause calm full still = absurd out
only_memory (BadPoint line) a b c d e g out causes cause calm full still = absurd out
only_memory (Changed name was now) a b c d e g out causes cause calm full still = absurd out
only_memory FolderFault a b c d e g out causes cause calm full still = absurd (calm (causes.folder_failed refl))
only_memory InputFault a b c d e g out causes cause calm full still = absurd (full (cause.failed refl))
only_memory OutFault a b c d e g out causes cause calm full still = absurd (still (causes.out_failed refl))
only_memory Memory a b c d e g out causes cause calm full still = refl

-- where no count rose, the fault is the definition's, or want of memory
pub completed : (r : Done) (result : Result (Unit {0}) Fault) (m : Files) (names : Option Files) (folder folder_now input input_now out out_now : ℕ) (before after : Option (List ℕ)) → HasCauses folder folder_now out out_now result → HasCause InputFault input input_now result → (Rose folder folder_now → ⊥) → (Rose input input_now → ⊥) → (Rose out out_now → ⊥) → Goes r m result names before after → (ended result ≡ r.fault) ⊎ (ended result ≡ Some Memory)
completed r (Ok done) m names folder folder_now input input_now out out_now before after causes cause calm full still h = inl (sym h.0)
completed r (Err f) m names folder folder_now input input_now out out_now before after causes cause calm full still (inl h) = inl (sym h.0)
completed r (Err f) m names folder folder_now input input_now out out_now before after causes cause calm full still (inr h) = inr (ap (λ (g : Fault). Some g) (only_memory f folder folder_now input input_now out out_now h.0 causes cause calm full still))

-- what ends a result is of the outside where the result is
pub ended_outside : (r : Result (Unit {0}) Fault) → IfErr r IsOutside → IfSome (ended r) IsOutside
ended_outside (Ok done) h = tt
ended_outside (Err f) h = h

-- what is of the outside is no refusal
no_refusal : (r : Result (Unit {0}) Fault) → IfErr r IsOutside → IsRefusal (ended r) → ⊥
no_refusal (Ok done) h refusal = let low : zero ≡ suc zero = refusal.refused in omega arith
no_refusal (Err f) h refusal = let high = outside_status f h in let low = refusal.refused in omega arith

-- a refused run makes no rasters from a number, or its folder doesn't tell its files
pub unless_made : {T : Type 0} → (rasters : Bool) (names : Option Files) (r : Result (Unit {0}) Fault) → (rasters ≡ true → IsSome names) → (rasters ≡ true → (m : Files) → names ≡ Some m → IfErr r IsOutside) → IsRefusal (ended r) → (rasters ≡ false → T) → T
unless_made false names r told made refusal others = others refl
unless_made true None r told made refusal others = let no : ⊥ = (let is : false ≡ true = told refl in cc) in absurd no
unless_made true (Some m) r told made refusal others = absurd (no_refusal r (made refl m refl) refusal)
