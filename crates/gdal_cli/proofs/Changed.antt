-- Files whose lengths changed.
use Rattle.std.proofs.Common.{◌≡◌, subst, sym, ℕ, List, Result, Ok, Err, Option}
use Rattle.std.specs.Prelude.{IfErr}
use Rattle.band_blocks.specs.declared.fault.LoadFault.{LoadFault}
use Rattle.band_blocks.specs.declared.fault.LoadFault.TheVariants as load
use Rattle.catalog.specs.Drivers.{Dataset}
use Rattle.nearest_window.specs.Right.{TellsChangeIn}
use Rattle.error_lines.specs.declared.faults.Fault.{Fault}
use Rattle.error_lines.specs.declared.faults.Fault.TheVariants.{Changed}
use Rattle.error_lines.specs.Faults.{IsOutside, load_fault_of}
use Rattle.output_copies.specs.Copying.{TellsChange}
use Rattle.gdal_cli.specs.Jobs.{PutsText}

-- a call that puts a text, or behind which the outside failed
pub puts_unchanged : (text : List ℕ) (r : Result (Unit {0}) Fault) (before after : Option (List ℕ)) → PutsText text r before after → (name : List ℕ) (was : ℕ) (now : Option ℕ) → r ≡ Err (Changed name was now) → ⊥
puts_unchanged text (Ok done) before after h name was now is = cc
puts_unchanged text (Err f) before after h name was now is = let same : f ≡ Changed name was now = cc in subst IsOutside same h.0

-- what a call that loads says of a change, as a fault of the run
pub load_tells : {T : Type 0} (cat : List Dataset) (l : LoadFault) (r : Result T Fault) → r ≡ Err (load_fault_of l) → TellsChangeIn cat l → IfErr r (TellsChange cat)
load_tells {T} cat l r is h = subst (λ (e : Result T Fault). IfErr e (TellsChange cat)) (sym is) (tells l h)
  where
    tells : (f : LoadFault) → TellsChangeIn cat f → TellsChange cat (load_fault_of f)
    tells load.FolderFault change = tt
    tells (load.Changed name was now) change = change
    tells load.Memory change = tt
