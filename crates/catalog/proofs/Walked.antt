-- The walk over names of files.
use Rattle.std.proofs.Common.{◌≡◌, ◌∙◌, ap, sym, subst, refl, cond, ℕ, List, [], ◌∷◌, ◌++◌, length, Bool, true, false, Some, Result, Ok, Err}
use Rattle.std.specs.Prelude.{All, slice_get}
use Rattle.std.proofs.lemmas.Option.{slice_get_within, get_or_from_slice_get}
use Rattle.std.proofs.lemmas.List.Elements.{All-append, All-cons, All-nil}
use Rattle.lists_and_answers.specs.Answers.{◌>>=◌}
use Rattle.outside.specs.Outside.{Files}
use Rattle.catalog.specs.declared.kind.Kind.{Kind}
use Rattle.catalog.specs.declared.kind.Kind.TheVariants as kinds
use Rattle.catalog.specs.declared.driver.Found.{Found}
use Rattle.catalog.specs.declared.driver.DriverHead.TheVariants as drivers
use Rattle.catalog.specs.declared.driver.Content.TheVariants.{File}
use Rattle.catalog.specs.declared.faults.WalkFault.{WalkFault}
use Rattle.catalog.specs.Drivers.{Dataset, dataset_of}
use Rattle.catalog.specs.Heads.{kind_in, found_in, dted_in, file_in, cell_in, records_whole, dataset_by, dataset_in}
use Rattle.catalog.specs.Walk.{IsDataset, IsCatalog, IsWalked}

err≢ok : {T : Type 0} {e : WalkFault} {x : T} → Err e ≡ Ok x → ⊥
err≢ok is = cc

-- an answer that doesn't change with what follows
bind_ok : {A B : Type 0} (x : Result A WalkFault) (k l : A → Result B WalkFault) (y : B) → ((a : A) → k a ≡ Ok y → l a ≡ Ok y) → (x >>= k) ≡ Ok y → (x >>= l) ≡ Ok y
bind_ok (Ok a) k l y h is = h a is
bind_ok (Err e) k l y h is = absurd (err≢ok is)

-- what is found with a test is found without it
abbrev Finds : Result Found WalkFault → Found → Type 0
Finds result f = result ≡ Ok f

untested : (verify : Bool) (test : Result (Unit {0}) WalkFault) (f g : Found) → Finds (cond verify test (Ok tt) >>= λ _. Ok g) f → Finds (Ok g) f
untested true (Ok done) f g is = is
untested true (Err e) f g is = absurd (err≢ok is)
untested false test f g is = is

dted_unverified : (m : Files) (verify : Bool) (name : List ℕ) (f : Found) → dted_in m verify name ≡ Ok f → dted_in m false name ≡ Ok f
unfolding dted_in
dted_unverified m verify name f is = bind_ok (file_in m name) _ _ f (λ bytes. bind_ok (cell_in bytes name) _ _ f (λ head. untested verify (records_whole head bytes name) f (record { content = File (drivers.Dted head); length = length bytes }))) is

found_unverified : (kind : Kind) (m : Files) (verify : Bool) (name : List ℕ) (f : Found) → found_in kind m verify name ≡ Ok f → found_in kind m false name ≡ Ok f
found_unverified kinds.Raw m verify name f is = is
found_unverified kinds.Dted m verify name f is = dted_unverified m verify name f is
found_unverified kinds.Hgt m verify name f is = is
found_unverified kinds.Ascii m verify name f is = is
found_unverified kinds.Vrt m verify name f is = is

of_found : (x y : Result Found WalkFault) (name : List ℕ) (d : Dataset) → ((f : Found) → x ≡ Ok f → y ≡ Ok f) → (x >>= λ f. Ok (dataset_of name f)) ≡ Ok d → (y >>= λ f. Ok (dataset_of name f)) ≡ Ok d
of_found (Ok f) y name d h is = ap (λ r. r >>= λ f. Ok (dataset_of name f)) (h f refl) ∙ is
of_found (Err e) y name d h is = absurd (err≢ok is)

unverified : (kind : Kind) (m : Files) (verify : Bool) (name : List ℕ) (d : Dataset) → dataset_by kind m verify name ≡ Ok d → dataset_by kind m false name ≡ Ok d
unfolding dataset_by
unverified kind m verify name d is = of_found (found_in kind m verify name) (found_in kind m false name) name d (found_unverified kind m verify name) is

-- what was read of a name is what its files say
pub read_so : (m : Files) (verify : Bool) (name : List ℕ) (kind : Kind) (d : Dataset) → kind_in name ≡ Ok kind → dataset_by kind m verify name ≡ Ok d → d.head.name ≡ name → dataset_in m false d.head.name ≡ Ok d
unfolding dataset_in
read_so m verify name kind d is read named = subst (λ (n : List ℕ). dataset_in m false n ≡ Ok d) (sym named) (ap (λ r. r >>= λ k. dataset_by k m false name) is ∙ unverified kind m verify name d read)

-- one dataset more
pub one_more_walked : (m : Files) (cat : List Dataset) (d : Dataset) → IsWalked m cat → dataset_in m false d.head.name ≡ Ok d → IsWalked m (cat ++ d ∷ [])
one_more_walked m cat d walked read =
    let Read = λ (x : Dataset). dataset_in m false x.head.name ≡ Ok x in
    All-append Read cat (d ∷ []) walked (All-cons Read d [] read (All-nil Read))

-- what is kept of a dataset by number

of_item : (P : Dataset → Type 0) (cat : List Dataset) (id : ℕ) (d : Dataset) → All P cat → slice_get cat id ≡ Some d → P d
of_item P cat id d all at = subst P (get_or_from_slice_get cat id d d at) (all id d (slice_get_within cat id d at))

pub dataset_kept : (cat : List Dataset) (id : ℕ) (d : Dataset) → IsCatalog cat → slice_get cat id ≡ Some d → IsDataset d
dataset_kept cat id d is at = of_item IsDataset cat id d is.each at

pub dataset_walked : (m : Files) (cat : List Dataset) (id : ℕ) (d : Dataset) → IsWalked m cat → slice_get cat id ≡ Some d → dataset_in m false d.head.name ≡ Ok d
dataset_walked m cat id d is at = of_item (λ (x : Dataset). dataset_in m false x.head.name ≡ Ok x) cat id d is at
