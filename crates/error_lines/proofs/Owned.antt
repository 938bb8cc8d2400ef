-- Faults of walks and of mosaics, as those of a run.
use Rattle.std.proofs.Common.{◌≡◌, ap, refl, subst, ℕ, List, Some, Result, Err}
use Rattle.catalog.specs.Heads.{IsOwnFault, OwnsFaults}
use Rattle.catalog.specs.declared.faults.Bad.{Bad}
use Rattle.catalog.specs.declared.faults.WalkFault.{WalkFault}
use Rattle.catalog.specs.declared.faults.WalkFault.TheVariants as walk
use Rattle.buildvrt.specs.declared.faults.BuildFault.{BuildFault}
use Rattle.buildvrt.specs.declared.faults.BuildFault.TheVariants as build
use Rattle.error_lines.specs.declared.faults.Fault.TheVariants.{Malformed, Build}
use Rattle.error_lines.specs.Faults.{fault_of, build_fault_of, OwnsFault}

malformed_is : (f : WalkFault) → ((name : List ℕ) (b : Bad) → f ≡ walk.Malformed name b → IsOwnFault b) → (name : List ℕ) (b : Bad) → Some (fault_of f) ≡ Some (Malformed name b) → IsOwnFault b
malformed_is (walk.Absent n) own = λ name b is. let no : ⊥ = cc in absurd no
malformed_is (walk.NotRecognized n) own = λ name b is. let no : ⊥ = cc in absurd no
malformed_is (walk.Malformed n bad) own = λ name b is. let one : bad ≡ b = cc in subst IsOwnFault one (own n bad refl)
malformed_is (walk.Short n needed has) own = λ name b is. let no : ⊥ = cc in absurd no
malformed_is (walk.Cycle n) own = λ name b is. let no : ⊥ = cc in absurd no
malformed_is (walk.TooDeep n) own = λ name b is. let no : ⊥ = cc in absurd no
malformed_is (walk.Limit what value) own = λ name b is. let no : ⊥ = cc in absurd no
malformed_is (walk.SourceBand n band) own = λ name b is. let no : ⊥ = cc in absurd no
malformed_is walk.FolderFault own = λ name b is. let no : ⊥ = cc in absurd no
malformed_is walk.Memory own = λ name b is. let no : ⊥ = cc in absurd no

-- no fault of a walk is that of a mosaic
pub no_build : (f : WalkFault) (b : BuildFault) → fault_of f ≡ Build b → ⊥
no_build (walk.Absent n) b is = cc
no_build (walk.NotRecognized n) b is = cc
no_build (walk.Malformed n bad) b is = cc
no_build (walk.Short n needed has) b is = cc
no_build (walk.Cycle n) b is = cc
no_build (walk.TooDeep n) b is = cc
no_build (walk.Limit what value) b is = cc
no_build (walk.SourceBand n band) b is = cc
no_build walk.FolderFault b is = cc
no_build walk.Memory b is = cc

some_is : {T : Type 0} (a b : T) → Some a ≡ Some b → a ≡ b
some_is a b is = cc

abbrev refused : WalkFault → Result ℕ WalkFault
refused f = Err f

-- a walk that was refused and owns its faults
pub own_refused : (f : WalkFault) → OwnsFaults (refused f) → OwnsFault (Some (fault_of f))
own_refused f own = record {
  malformed = malformed_is f (λ name b is. own name b (ap refused is));
  build = λ is. no_build f build.Memory (some_is _ _ is);
}

-- the refusal of a mosaic is a fault of its own
pub own_build : (b : BuildFault) → OwnsFault (Some (build_fault_of b))
own_build build.Nothing = record { malformed = λ name bad is. let no : ⊥ = cc in absurd no; build = λ is. let no : ⊥ = cc in absurd no }
own_build (build.Strict name why) = record { malformed = λ name bad is. let no : ⊥ = cc in absurd no; build = λ is. let no : ⊥ = cc in absurd no }
own_build build.Limit = record { malformed = λ name bad is. let no : ⊥ = cc in absurd no; build = λ is. let no : ⊥ = cc in absurd no }
own_build build.Memory = record { malformed = λ name bad is. let no : ⊥ = cc in absurd no; build = λ is. let no : ⊥ = cc in absurd no }
