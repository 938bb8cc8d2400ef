-- Answers that a file changed.
use Rattle.std.proofs.Common.{◌≡◌, ◌∙◌, subst, sym, inl, inr, List, Result, Ok, Err, Option}
use Rattle.std.specs.Prelude.{IfErr}
use Rattle.std.specs.Result.{IsErr, IsErrAnd}
use Rattle.outside.specs.Outside.{Files}
use Rattle.catalog.specs.Drivers.{Dataset}
use Rattle.band_blocks.specs.declared.fault.LoadFault.{LoadFault}
use Rattle.band_blocks.specs.declared.fault.LoadFault.TheVariants as load
use Rattle.nearest_window.specs.Right.{TellsChangeIn}
use Rattle.write_back.specs.declared.fault.TargetFault.{TargetFault}
use Rattle.write_back.specs.declared.fault.TargetFault.TheVariants as target
use Rattle.error_lines.specs.declared.faults.Fault.{Fault}
use Rattle.error_lines.specs.declared.faults.Fault.TheVariants.{Changed, OutFault, Memory}
use Rattle.error_lines.specs.Faults.{load_fault_of, target_fault_of, IsOutside}
use Rattle.published_files.specs.Documents.{IsOfFolder}
use Rattle.output_copies.specs.Copying.{IsChanged, TellsChange}
use Rattle.output_copies.proofs.Ends.{err_is}

-- what holds of a fault that is handed on
pub handed_on : {U : Type 0} (P : Fault → Type 0) (f : Fault) (r : Result U Fault) → IsErr r × IsErrAnd r (λ e. e ≡ f) → P f → IfErr r P
handed_on {U = U} P f r is h = subst (λ (e : Result U Fault). IfErr e P) (sym (err_is r f is)) h

-- what holds of each such fault
pub where_failed : {T : Type 0} (P Q : Fault → Type 0) (r : Result T Fault) → ((f : Fault) → P f → Q f) → IfErr r P → IfErr r Q
where_failed P Q (Ok v) by h = tt
where_failed P Q (Err f) by h = by f h

-- faults of the outside
pub folder_outside : (f : Fault) → IsOfFolder f → IsOutside f
folder_outside f (inl is) = subst IsOutside (sym is) tt
folder_outside f (inr is) = subst IsOutside (sym is) tt

pub out_outside : (f : Fault) → f ≡ OutFault → IsOutside f
out_outside f is = subst IsOutside (sym is) tt

module _ (cat : List Dataset) where
  pub outside_tells : (f : Fault) → IsOutside f → TellsChange cat f
  outside_tells (Changed name was now) out = absurd out
  outside_tells f out = tt

  pub out_tells : (f : Fault) → f ≡ OutFault → TellsChange cat f
  out_tells f is = subst (TellsChange cat) (sym is) tt

  pub memory_tells : (f : Fault) → f ≡ Memory → TellsChange cat f
  memory_tells f is = subst (TellsChange cat) (sym is) tt

  -- what reading ends with, and writing
  pub load_tells : (l : LoadFault) → TellsChangeIn cat l → TellsChange cat (load_fault_of l)
  load_tells load.FolderFault tells = tt
  load_tells (load.Changed name was now) tells = tells
  load_tells load.Memory tells = tt

  pub target_tells : (t : TargetFault) → TellsChange cat (target_fault_of t)
  target_tells target.FolderFault = tt
  target_tells target.Memory = tt

-- a fault of the outside says of no file that it changed
outside_keeps : (f : Fault) (P : Type 0) → IsOutside f → IsChanged f → P
outside_keeps (Changed name was now) P out is = absurd out
outside_keeps f P out is = absurd is

pub kept_outside : {T : Type 0} (r : Result T Fault) (P : Type 0) → IfErr r IsOutside → IfErr r (λ f. IsChanged f → P)
kept_outside (Ok v) P out = tt
kept_outside (Err f) P out = outside_keeps f P out

-- the names are kept whatever is answered
pub kept_all : {T : Type 0} (r : Result T Fault) (before after : Option Files) → after ≡ before → IfErr r (λ f. IsChanged f → after ≡ before)
kept_all (Ok v) before after same = tt
kept_all (Err f) before after same = λ is. same

-- or behind calls that kept them
pub kept_behind : {T : Type 0} (r : Result T Fault) (first mid last : Option Files) → mid ≡ first → IfErr r (λ f. IsChanged f → last ≡ mid) → IfErr r (λ f. IsChanged f → last ≡ first)
kept_behind (Ok v) first mid last same kept = tt
kept_behind (Err f) first mid last same kept = λ is. kept is ∙ same
