-- How the parts of the making of a mosaic end.
use Rattle.std.proofs.Common.{◌≡◌, ◌∙◌, ◌⊎◌, ap, inl, inr, ◌≤◌, arith, subst, ℕ, List, Result, Ok, Err}
use Rattle.std.specs.Prelude.{IfErr}
use Rattle.outside.specs.Causes.{HasCause}
use Rattle.error_lines.specs.declared.faults.Fault.{Fault}
use Rattle.error_lines.specs.declared.faults.Fault.TheVariants.{Absent, NotRecognized, Malformed, Short, Cycle, TooDeep, Limit, SourceBand, Build, SameName, FolderFault, OutFault, Memory}
use Rattle.error_lines.specs.Faults.{IsOutside, HasCauses, fault_status}
use Rattle.mosaic_builds.specs.Ends.{IsOfBuilding, IsOfMaking, MayEnd}
use Rattle.mosaic_builds.specs.Faults.{IsOfNames, IsOfWriting}

-- a fault of names is one that a mosaic may end with
pub may_names : (out : List ℕ) (f : Fault) → IsOfNames f → IsOfMaking out f
may_names out (Limit what value) h = tt
may_names out Memory h = tt
may_names out f h = absurd h

pub names_end : {T : Type 0} (r : Result T Fault) → IfErr r IsOfNames → (out : List ℕ) → IfErr r (IsOfMaking out)
names_end (Ok x) h out = tt
names_end (Err f) h out = may_names out f h

-- and none of a folder
pub names_cause : {T : Type 0} (r : Result T Fault) (before now : ℕ) → before ≤ now → IfErr r IsOfNames → HasCause FolderFault before now r
names_cause {T} r before now later h = record { later = later; failed = λ is. absurd (subst (λ (x : Result T Fault). IfErr x IsOfNames) is h) }

-- a fault of the folder, or want of memory, is one of the outside
pub folder_outside : (f : Fault) → (f ≡ FolderFault) ⊎ (f ≡ Memory) → IsOutside f
folder_outside f (inl is) = rw is tt
folder_outside f (inr is) = rw is tt

-- a fault of building is one of making, and none of a folder
pub may_built : (out : List ℕ) (f : Fault) → IsOfBuilding out f → IsOfMaking out f
may_built out (Build b) h = h
may_built out (SameName n) h = h
may_built out Memory h = tt
may_built out f h = absurd h

pub built_end : {T : Type 0} (r : Result T Fault) (out : List ℕ) → IfErr r (IsOfBuilding out) → IfErr r (IsOfMaking out)
built_end (Ok x) out h = tt
built_end (Err f) out h = may_built out f h

pub built_cause : {T : Type 0} (r : Result T Fault) (out : List ℕ) (before now : ℕ) → before ≤ now → IfErr r (IsOfBuilding out) → HasCause FolderFault before now r
built_cause {T} r out before now later h = record { later = later; failed = λ is. absurd (subst (λ (x : Result T Fault). IfErr x (IsOfBuilding out)) is h) }

-- a fault of making is one that a mosaic may end with, and none of an output
pub making_ends : (out : List ℕ) (f : Fault) → IsOfMaking out f → MayEnd out f
making_ends out (Absent name) h = tt
making_ends out (NotRecognized name) h = h
making_ends out (Malformed name b) h = h
making_ends out (Short name needed has) h = tt
making_ends out (Cycle name) h = tt
making_ends out (TooDeep name) h = tt
making_ends out (Limit what value) h = tt
making_ends out (SourceBand name band) h = tt
making_ends out (Build b) h = h
making_ends out (SameName name) h = h
making_ends out FolderFault h = tt
making_ends out Memory h = tt
making_ends out f h = absurd h

pub making_causes : {T U : Type 0} (out : List ℕ) (r : Result T Fault) (f : Fault) (folder now put : ℕ) → r ≡ Err f → IsOfMaking out f → HasCause FolderFault folder now r → HasCauses {T = U} folder now put put (Err f)
making_causes {T} {U} out r f folder now put at h cause = record {
  folder_later = cause.later;
  out_later = omega arith;
  folder_failed = λ is. let one : f ≡ FolderFault = cc in cause.failed (at ∙ ap Err one);
  out_failed = λ is. let one : f ≡ OutFault = cc in absurd (subst (IsOfMaking out) one h);
}

-- what writing ends with is no refusal
no_refusal : (f : Fault) (P : Type 0) → IsOfWriting f → fault_status f ≡ 1 → P
no_refusal f P (inl is) refusal = let two : fault_status f ≡ 2 = ap fault_status is in absurd (omega arith)
no_refusal f P (inr (inl is)) refusal = let two : fault_status f ≡ 2 = ap fault_status is in absurd (omega arith)
no_refusal f P (inr (inr is)) refusal = let three : fault_status f ≡ 3 = ap fault_status is in absurd (omega arith)

pub writing_refuses : (r : Result (Unit {0}) Fault) (P : Type 0) → IfErr r IsOfWriting → IfErr r (λ f. fault_status f ≡ 1 → P)
writing_refuses (Ok done) P h = tt
writing_refuses (Err f) P h = no_refusal f P h
