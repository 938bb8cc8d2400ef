-- How the parts of a translation end.
use Rattle.std.proofs.Common.{◌≡◌, ◌∙◌, ap, refl, ◌≤◌, inl, inr, subst, sym, ℕ, List, Result, Ok, Err, Option, Some, arith}
use Rattle.std.specs.Prelude.{IfErr, OnOk}
use Rattle.std.specs.Result.{IsErr, IsErrAnd}
use Rattle.outside.specs.Causes.{HasCause, Rose}
use Rattle.outside.specs.Outside.{Files}
use Rattle.catalog.specs.Drivers.{Dataset}
use Rattle.band_blocks.specs.Open.{IsUnchanged}
use Rattle.band_blocks.specs.declared.fault.LoadFault.{LoadFault}
use Rattle.band_blocks.specs.declared.fault.LoadFault.TheVariants as load
use Rattle.nearest_window.specs.Right.{TellsChangeIn}
use Rattle.write_back.specs.declared.fault.TargetFault.{TargetFault}
use Rattle.write_back.specs.declared.fault.TargetFault.TheVariants as target
use Rattle.error_lines.specs.declared.faults.Fault.{Fault}
use Rattle.error_lines.specs.declared.faults.Fault.TheVariants.{Changed, FolderFault, OutFault, Memory}
use Rattle.error_lines.specs.Faults.{load_fault_of, target_fault_of, IsOutside}
use Rattle.published_files.specs.Documents.{IsOfFolder}
use Rattle.output_copies.specs.Copying.{MayEnd}

-- a fault as an answer
abbrev failed : (T : Type 0) → Fault → Result T Fault
failed T f = Err f

-- what a refused call hands on
pub err_is : {U E : Type 0} (r : Result U E) (f : E) → IsErr r × IsErrAnd r (λ e. e ≡ f) → r ≡ Err f
err_is (Ok x) f h = absurd h.1
err_is (Err e) f h = ap Err h.1

-- success
pub ends_ok : {T : Type 0} (v : T) (told : Option Files) (f g o p : ℕ) → f ≤ g → o ≤ p → MayEnd {T = T} told f g o p (Ok v)
ends_ok v told f g o p folder out = record {
  cause = record { folder_later = folder; out_later = out; folder_failed = λ is. absurd cc; out_failed = λ is. absurd cc };
  reading = tt;
  differs = λ name was now is same. cc;
  never = λ m is. tt;
}

-- a fault of the output
pub ends_out : {T : Type 0} (told : Option Files) (f g o p : ℕ) → f ≤ g → o ≤ p → Rose o p → MayEnd {T = T} told f g o p (Err OutFault)
ends_out told f g o p folder out rose = record {
  cause = record { folder_later = folder; out_later = out; folder_failed = λ is. absurd cc; out_failed = λ is. rose };
  reading = tt;
  differs = λ name was now is same. cc;
  never = λ m is. tt;
}

-- want of memory
pub ends_memory : {T : Type 0} (told : Option Files) (f g o p : ℕ) → f ≤ g → o ≤ p → MayEnd {T = T} told f g o p (Err Memory)
ends_memory told f g o p folder out = record {
  cause = record { folder_later = folder; out_later = out; folder_failed = λ is. absurd cc; out_failed = λ is. absurd cc };
  reading = tt;
  differs = λ name was now is same. cc;
  never = λ m is. tt;
}

-- a fault of the folder
pub ends_folder : {T : Type 0} (told : Option Files) (f g o p : ℕ) → f ≤ g → o ≤ p → Rose f g → MayEnd {T = T} told f g o p (Err FolderFault)
ends_folder told f g o p folder out rose = record {
  cause = record { folder_later = folder; out_later = out; folder_failed = λ is. rose; out_failed = λ is. absurd cc };
  reading = tt;
  differs = λ name was now is same. cc;
  never = λ m is. tt;
}

-- a file that changed
ends_changed : {T : Type 0} (told : Option Files) (f g : ℕ) (name : List ℕ) (was : ℕ) (now : Option ℕ) → f ≤ g → (now ≡ Some was → ⊥) → ((m : Files) → told ≡ Some m → ⊥) → MayEnd {T = T} told f g 0 0 (Err (Changed name was now))
ends_changed {T = T} told f g name was now folder other never = record {
  cause = record { folder_later = folder; out_later = omega arith; folder_failed = λ is. absurd cc; out_failed = λ is. absurd cc };
  reading = tt;
  differs = λ name' was' now' is same. by was' now' (parted name' was' now' is) same;
  never = λ m is. absurd (never m is);
}
  where
    parted : (name' : List ℕ) (was' : ℕ) (now' : Option ℕ) → failed T (Changed name was now) ≡ failed T (Changed name' was' now') → (was ≡ was') × (now ≡ now')
    parted name' was' now' is = (cc, cc)

    by : (was' : ℕ) (now' : Option ℕ) → (was ≡ was') × (now ≡ now') → now' ≡ Some was' → ⊥
    by was' now' is same = other cc

-- what reading ends with
pub ends_load : {T U : Type 0} (cat : List Dataset) (l : LoadFault) (told : Option Files) (f g : ℕ) → HasCause {T = U} load.FolderFault f g (Err l) → TellsChangeIn cat l → ((m : Files) → told ≡ Some m → IsUnchanged l) → MayEnd {T = T} told f g 0 0 (Err (load_fault_of l))
ends_load cat load.FolderFault told f g cause changed never = ends_folder told f g 0 0 cause.later (omega arith) (cause.failed refl)
ends_load cat (load.Changed name was now) told f g cause changed never = ends_changed told f g name was now cause.later changed.3.2 never
ends_load cat load.Memory told f g cause changed never = ends_memory told f g 0 0 cause.later (omega arith)

-- what writing ends with
pub ends_target : {T U : Type 0} (t : TargetFault) (told : Option Files) (f g : ℕ) → HasCause {T = U} target.FolderFault f g (Err t) → MayEnd {T = T} told f g 0 0 (Err (target_fault_of t))
ends_target target.FolderFault told f g cause = ends_folder told f g 0 0 cause.later (omega arith) (cause.failed refl)
ends_target target.Memory told f g cause = ends_memory told f g 0 0 cause.later (omega arith)

pub outside_memory : (f : Fault) → f ≡ Memory → IsOutside f
outside_memory f is = subst IsOutside (sym is) tt

pub outside_target : (t : TargetFault) (f : Fault) → f ≡ target_fault_of t → IsOutside f
outside_target target.FolderFault f is = subst IsOutside (sym is) tt
outside_target target.Memory f is = subst IsOutside (sym is) tt

-- behind calls that succeeded
pub ends_after : {T : Type 0} (told told' : Option Files) (f g h o p q : ℕ) (r : Result T Fault) → told' ≡ told → f ≤ g → o ≤ p → MayEnd told' g h p q r → MayEnd told f h o q r
ends_after told told' f g h o p q r same folder out ends =
    let e = ends.cause in
    let fl : g ≤ h = e.folder_later in
    let ol : p ≤ q = e.out_later in
    record {
      cause = record {
        folder_later = omega arith;
        out_later = omega arith;
        folder_failed = λ is. let rose = e.folder_failed is in omega (arith, rose);
        out_failed = λ is. let rose = e.out_failed is in omega (arith, rose);
      };
      reading = ends.reading;
      differs = ends.differs;
      never = λ m is. ends.never m (same ∙ is);
    }

-- beside an output that is left alone
pub ends_beside : {T : Type 0} (told : Option Files) (f g o : ℕ) (r : Result T Fault) → MayEnd told f g 0 0 r → MayEnd told f g o o r
ends_beside told f g o r ends = record {
  cause = record {
    folder_later = ends.cause.folder_later;
    out_later = omega arith;
    folder_failed = ends.cause.folder_failed;
    out_failed = λ is. let rose = ends.cause.out_failed is in let no : ⊥ = omega (arith, rose) in absurd no;
  };
  reading = ends.reading;
  differs = ends.differs;
  never = ends.never;
}

-- the same fault in another answer
pub ends_so : {T U : Type 0} (told : Option Files) (f g o p : ℕ) (fault : Fault) (r : Result U Fault) → r ≡ Err fault → MayEnd {T = T} told f g o p (Err fault) → MayEnd {T = U} told f g o p r
ends_so {T = T} {U = U} told f g o p fault r is ends = subst (λ (e : Result U Fault). MayEnd told f g o p e) (sym is) (record {
  cause = record {
    folder_later = ends.cause.folder_later;
    out_later = ends.cause.out_later;
    folder_failed = λ e. ends.cause.folder_failed (over fault FolderFault e);
    out_failed = λ e. ends.cause.out_failed (over fault OutFault e);
  };
  reading = ends.reading;
  differs = λ name was now e same. ends.differs name was now (over fault (Changed name was now) e) same;
  never = ends.never;
})
  where
    over : (a b : Fault) → failed U a ≡ failed U b → failed T a ≡ failed T b
    over a b e = cc

-- what the publishing of a document ends with
pub ends_published : {T : Type 0} (told : Option Files) (f g : ℕ) (r : Result T Fault) → IfErr r IsOfFolder → HasCause {T = T} FolderFault f g r → MayEnd told f g 0 0 r
ends_published told f g (Ok v) of cause = ends_ok v told f g 0 0 cause.later (omega arith)
ends_published {T = T} told f g (Err e) of cause = by e of cause
  where
    by : (e : Fault) → IsOfFolder e → HasCause {T = T} FolderFault f g (Err e) → MayEnd {T = T} told f g 0 0 (Err e)
    by e (inl is) cause = subst (λ (x : Fault). HasCause {T = T} FolderFault f g (Err x) → MayEnd {T = T} told f g 0 0 (Err x)) (sym is) (λ at. ends_folder told f g 0 0 at.later (omega arith) (at.failed refl)) cause
    by e (inr is) cause = subst (λ (x : Fault). MayEnd {T = T} told f g 0 0 (Err x)) (sym is) (ends_memory told f g 0 0 cause.later (omega arith))

-- what holds where a call answers Ok
pub ok_then : (r : Result (Unit {0}) Fault) (P : Type 0) → r ≡ Ok tt → OnOk r P → P
ok_then r P is h = subst (λ (e : Result (Unit {0}) Fault). OnOk e P) is h

-- what holds in any case, where a call succeeded
pub ok_with : {T : Type 0} (r : Result T Fault) (P : Type 0) → P → OnOk r P
ok_with (Ok v) P h = h
ok_with (Err f) P h = tt

-- what follows from what holds where a call succeeded
pub ok_map : {T : Type 0} (r : Result T Fault) (P Q : Type 0) → (P → Q) → OnOk r P → OnOk r Q
ok_map (Ok v) P Q by h = by h
ok_map (Err f) P Q by h = tt

-- before a later count of the folder's faults
pub ends_later : {T : Type 0} (told : Option Files) (f g h o p : ℕ) (r : Result T Fault) → g ≤ h → MayEnd told f g o p r → MayEnd told f h o p r
ends_later told f g h o p r later ends =
    let fl : f ≤ g = ends.cause.folder_later in
    record {
      cause = record {
        folder_later = omega arith;
        out_later = ends.cause.out_later;
        folder_failed = λ is. let rose = ends.cause.folder_failed is in omega (arith, rose);
        out_failed = ends.cause.out_failed;
      };
      reading = ends.reading;
      differs = ends.differs;
      never = ends.never;
    }

-- a fault of a view, of which the folder's count takes the failed calls over
pub ends_by_view : {T : Type 0} (told : Option Files) (f h view o : ℕ) (r : Result T Fault) → f ≤ h → (1 ≤ view → Rose f h) → MayEnd told 0 view 0 0 r → MayEnd told f h o o r
ends_by_view told f h view o r later risen ends = record {
  cause = record {
    folder_later = later;
    out_later = omega arith;
    folder_failed = λ is. let rose = ends.cause.folder_failed is in risen (omega (arith, rose));
    out_failed = λ is. let rose = ends.cause.out_failed is in let no : ⊥ = omega (arith, rose) in absurd no;
  };
  reading = ends.reading;
  differs = ends.differs;
  never = ends.never;
}

-- a call that is refused for want of memory alone
pub ends_by_memory : {T : Type 0} (told : Option Files) (f g : ℕ) (r : Result T Fault) → f ≤ g → IfErr r (λ x. x ≡ Memory) → MayEnd told f g 0 0 r
ends_by_memory told f g (Ok v) later memory = ends_ok v told f g 0 0 later (omega arith)
ends_by_memory {T = T} told f g (Err x) later memory = subst (λ (y : Fault). MayEnd {T = T} told f g 0 0 (Err y)) (sym memory) (ends_memory told f g 0 0 later (omega arith))
