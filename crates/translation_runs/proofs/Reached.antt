-- Datasets of a catalog by their numbers.
use Rattle.std.proofs.Common.{◌≡◌, ◌∙◌, ap, sym, subst, ℕ, List, [], false, Ok, Some}
use Rattle.std.specs.Prelude.{slice_get, option_map}
use Rattle.std.proofs.lemmas.List.Elements.{All-nil}
use Rattle.outside.specs.Outside.{Files}
use Rattle.catalog.specs.Drivers.{Dataset}
use Rattle.catalog.specs.Heads.{dataset_in}
use Rattle.catalog.specs.Walk.{IsWalked}
use Rattle.catalog.proofs.Found.{some_is, of_item}

-- what is told of the dataset of a number
pub told_of : {T : Type 0} (f : Dataset → T) (cat : List Dataset) (id : ℕ) (d : Dataset) (x : T) → slice_get cat id ≡ Some d → option_map f (slice_get cat id) ≡ Some x → f d ≡ x
told_of f cat id d x at is = some_is (sym (ap (option_map f) at) ∙ is)

-- the files say of the name what a walk from no dataset has met under it
pub walked_read : (m : Files) (old cat : List Dataset) (name : List ℕ) (id : ℕ) (d : Dataset) → old ≡ [] → (IsWalked m old → IsWalked m cat) → slice_get cat id ≡ Some d → d.head.name ≡ name → dataset_in m false name ≡ Ok d
walked_read m old cat name id d empty more at named =
    let Read = λ (x : Dataset). dataset_in m false x.head.name ≡ Ok x in
    let all : IsWalked m cat = more (subst (IsWalked m) (sym empty) (All-nil Read)) in
    subst (λ (n : List ℕ). dataset_in m false n ≡ Ok d) named (of_item Read cat id d all at)
