-- Walks one after the other.
use Rattle.std.proofs.Common.{◌≡◌, ◌∙◌, ◌⊎◌, ap, sym, refl, subst, inl, inr, ℕ, ◌+◌, ◌<◌, arith, Bool, List, [], ◌∷◌, ◌++◌, length, take, drop, get_or, append_assoc, Some, Result, Ok, Err}
use Rattle.std.proofs.lemmas.List.{append-nil, drop_more, take_more}
use Rattle.std.proofs.lemmas.List.Elements.{All-cons, All-nil}
use Rattle.std.proofs.lemmas.Option.{slice_get_within}
use Rattle.lists_and_answers.specs.Answers.{◌>>=◌}
use Rattle.outside.specs.Outside.{Files}
use Rattle.catalog.specs.Drivers.{Dataset}
use Rattle.catalog.specs.Heads.{OwnsFaults}
use Rattle.catalog.specs.Walk.{dataset_number_in, number_from, walked, TellsKinds}
use Rattle.catalog.specs.Outcomes as outcomes
use Rattle.catalog.specs.declared.faults.WalkFault.{WalkFault}
use Rattle.catalog.specs.declared.faults.WalkFault.TheVariants as walk
use Rattle.catalog.proofs.Found.{found}
use Rattle.catalog.proofs.Numbers.{number_kept}
use Rattle.error_lines.specs.declared.faults.Fault.{Fault}
use Rattle.error_lines.specs.declared.faults.Fault.TheVariants.{FolderFault}
use Rattle.error_lines.specs.Faults.{fault_of, by_walk, IsOutside}
use Rattle.mosaic_builds.specs.Ends.{IsOfMaking}
use Rattle.mosaic_builds.specs.Walks.{walked_all, AreNumbers, AreKnown}
use Rattle.mosaic_builds.proofs.Heads.{numbers, somes}

-- a fault of a walk is one that a mosaic may end with
abbrev refused : WalkFault → Result ℕ WalkFault
refused f = Err f

pub may_walk : (f : WalkFault) → TellsKinds (refused f) → OwnsFaults (refused f) → (out : List ℕ) → IsOfMaking out (fault_of f)
may_walk (walk.Absent n) tells owns out = tt
may_walk (walk.NotRecognized n) tells owns out = tells n refl
may_walk (walk.Malformed n b) tells owns out = owns n b refl
may_walk (walk.Short n needed has) tells owns out = tt
may_walk (walk.Cycle n) tells owns out = tt
may_walk (walk.TooDeep n) tells owns out = tt
may_walk (walk.Limit what value) tells owns out = tt
may_walk (walk.SourceBand n band) tells owns out = tt
may_walk walk.FolderFault tells owns out = tt
may_walk walk.Memory tells owns out = tt

-- and of the folder where the walk's is
pub folder_of : (f : WalkFault) → fault_of f ≡ FolderFault → f ≡ walk.FolderFault
folder_of (walk.Absent n) is = let no : ⊥ = cc in absurd no
folder_of (walk.NotRecognized n) is = let no : ⊥ = cc in absurd no
folder_of (walk.Malformed n b) is = let no : ⊥ = cc in absurd no
folder_of (walk.Short n needed has) is = let no : ⊥ = cc in absurd no
folder_of (walk.Cycle n) is = let no : ⊥ = cc in absurd no
folder_of (walk.TooDeep n) is = let no : ⊥ = cc in absurd no
folder_of (walk.Limit what value) is = let no : ⊥ = cc in absurd no
folder_of (walk.SourceBand n band) is = let no : ⊥ = cc in absurd no
folder_of walk.FolderFault is = refl
folder_of walk.Memory is = let no : ⊥ = cc in absurd no

pub outside_walk : (f : WalkFault) (d : Result (List Dataset) WalkFault) → outcomes.IsOutside f ⊎ (d ≡ Err f) → IsOutside (fault_of f) ⊎ (by_walk d ≡ Err (fault_of f))
outside_walk walk.FolderFault d (inl out) = inl tt
outside_walk walk.Memory d (inl out) = inl tt
outside_walk f d (inl out) = absurd out
outside_walk f d (inr is) = inr (ap (λ (e : Result (List Dataset) WalkFault). by_walk e) is)

-- numbers stay where a catalog grows
kept_from : (at : ℕ) (cat more : List Dataset) (name : List ℕ) (id : ℕ) → number_from at cat name ≡ Some id → number_from at (cat ++ more) name ≡ Some id
kept_from at cat [] name id is = subst (λ (c : List Dataset). number_from at c name ≡ Some id) (sym (append-nil cat)) is
kept_from at cat (d ∷ more) name id is = subst (λ (c : List Dataset). number_from at c name ≡ Some id) (append_assoc cat (d ∷ []) more) (kept_from at (cat ++ d ∷ []) more name id (number_kept at cat d name id is))

all_kept : (cat more : List Dataset) (names : List (List ℕ)) (ids : List ℕ) → numbers cat names ≡ somes ids → numbers (cat ++ more) names ≡ somes ids
all_kept cat more [] ids is = is
all_kept cat more (name ∷ names) [] is = let no : ⊥ = cc in absurd no
all_kept cat more (name ∷ names) (id ∷ ids) is =
    let here : dataset_number_in (cat ++ more) name ≡ Some id = kept_from 0 cat more name id (cc) in
    let rest : numbers (cat ++ more) names ≡ somes ids = all_kept cat more names ids (cc) in
    cc

one_last : (cat : List Dataset) (names : List (List ℕ)) (ids : List ℕ) (name : List ℕ) (id : ℕ) → numbers cat names ≡ somes ids → dataset_number_in cat name ≡ Some id → numbers cat (names ++ name ∷ []) ≡ somes (ids ++ id ∷ [])
one_last cat [] [] name id is one = cc
one_last cat [] (i ∷ ids) name id is one = let no : ⊥ = cc in absurd no
one_last cat (n ∷ names) [] name id is one = let no : ⊥ = cc in absurd no
one_last cat (n ∷ names) (i ∷ ids) name id is one =
    let here : dataset_number_in cat n ≡ Some i = cc in
    let rest : numbers cat (names ++ name ∷ []) ≡ somes (ids ++ id ∷ []) = one_last cat names ids name id (cc) one in
    cc

pub numbers_next : (old new : List Dataset) (kept : (more : List Dataset) × (new ≡ old ++ more)) (names : List (List ℕ)) (ids ids_now : List ℕ) (name : List ℕ) (id : ℕ) → AreNumbers old names ids → dataset_number_in new name ≡ Some id → ids_now ≡ ids ++ id ∷ [] → AreNumbers new (names ++ name ∷ []) ids_now
numbers_next old new kept names ids ids_now name id are one put = record {
  each =
      one_last new names ids name id (subst (λ (c : List Dataset). numbers c names ≡ somes ids) (sym kept.1) (all_kept old kept.0 names ids are.each)) one
      ∙ ap (λ (l : List ℕ). somes l) (sym put);
}

-- as many numbers as names, each of a dataset
pub numbers_count : (cat : List Dataset) (names : List (List ℕ)) (ids : List ℕ) → numbers cat names ≡ somes ids → length ids ≡ length names
numbers_count cat [] [] is = refl
numbers_count cat [] (id ∷ ids) is = let no : ⊥ = cc in absurd no
numbers_count cat (name ∷ names) [] is = let no : ⊥ = cc in absurd no
numbers_count cat (name ∷ names) (id ∷ ids) is = let more = numbers_count cat names ids (cc) in omega (arith, more)

pub numbers_known : (cat : List Dataset) (names : List (List ℕ)) (ids : List ℕ) → numbers cat names ≡ somes ids → AreKnown cat ids
numbers_known cat [] [] is = All-nil (λ (id : ℕ). id < length cat)
numbers_known cat [] (id ∷ ids) is = let no : ⊥ = cc in absurd no
numbers_known cat (name ∷ names) [] is = let no : ⊥ = cc in absurd no
numbers_known cat (name ∷ names) (id ∷ ids) is =
    let at = found cat name id (cc) in
    All-cons (λ (id : ℕ). id < length cat) id ids (slice_get_within cat id at.dataset at.at) (numbers_known cat names ids (cc))

-- the walks so far and those that are left
at_name : (names : List (List ℕ)) (i : ℕ) (name : List ℕ) → i < length names → name ≡ get_or names i name → drop i names ≡ name ∷ drop (i + 1) names
at_name names i name less is = drop_more names i name less ∙ ap (λ (n : List ℕ). n ∷ drop (i + 1) names) (sym is)

pub walks_next : (m : Files) (verify : Bool) (names : List (List ℕ)) (i : ℕ) (name : List ℕ) (first old new : List Dataset) → i < length names → name ≡ get_or names i name → walked_all m verify first names ≡ walked_all m verify old (drop i names) → by_walk (walked m verify old name) ≡ Ok new → walked_all m verify first names ≡ walked_all m verify new (drop (i + 1) names)
walks_next m verify names i name first old new less is so step =
    so ∙ ap (walked_all m verify old) (at_name names i name less is) ∙ ap (λ (r : Result (List Dataset) Fault). r >>= λ next. walked_all m verify next (drop (i + 1) names)) step

pub walks_refused : (m : Files) (verify : Bool) (names : List (List ℕ)) (i : ℕ) (name : List ℕ) (first old : List Dataset) (f : Fault) → i < length names → name ≡ get_or names i name → walked_all m verify first names ≡ walked_all m verify old (drop i names) → IsOutside f ⊎ (by_walk (walked m verify old name) ≡ Err f) → IsOutside f ⊎ (walked_all m verify first names ≡ Err f)
walks_refused m verify names i name first old f less is so (inl out) = inl out
walks_refused m verify names i name first old f less is so (inr step) =
    inr (so ∙ ap (walked_all m verify old) (at_name names i name less is) ∙ ap (λ (r : Result (List Dataset) Fault). r >>= λ next. walked_all m verify next (drop (i + 1) names)) step)

pub taken_next : (names : List (List ℕ)) (i : ℕ) (name : List ℕ) → i < length names → name ≡ get_or names i name → take i names ++ name ∷ [] ≡ take (i + 1) names
taken_next names i name less is = ap (λ (n : List ℕ). take i names ++ n ∷ []) is ∙ sym (take_more names i name less)

pub kept_next : (first old new : List Dataset) → ((more : List Dataset) × (old ≡ first ++ more)) → ((more : List Dataset) × (new ≡ old ++ more)) → (more : List Dataset) × (new ≡ first ++ more)
kept_next first old new before next = (before.0 ++ next.0, next.1 ∙ ap (λ (c : List Dataset). c ++ next.0) before.1 ∙ append_assoc first before.0 next.0)
