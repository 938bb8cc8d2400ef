-- A mosaic, step by step.
use Rattle.std.proofs.Common.{◌≡◌, ◌∙◌, ◌⊎◌, ap, sym, refl, subst, inl, inr, ℕ, Bool, true, false, cond, List, [], length, Option, Result, Ok, Err}
use Rattle.std.specs.List.{All}
use Rattle.lists_and_answers.specs.Answers.{◌>>=◌, Gives}
use Rattle.outside.specs.Outside.{Files}
use Rattle.vrt_profile.specs.Values.{DocumentValue}
use Rattle.catalog.specs.Dataset.{DatasetHead}
use Rattle.catalog.specs.Drivers.{Dataset}
use Rattle.buildvrt.specs.Options.{Options}
use Rattle.buildvrt.specs.Judging.{JudgedValue, IsOneOf, judged_of, strictly}
use Rattle.buildvrt.specs.Mosaic.{mosaic_of, mosaic_by, document_by}
use Rattle.buildvrt.specs.declared.faults.Skipped.{Skipped}
use Rattle.buildvrt.specs.declared.faults.BuildFault.{BuildFault}
use Rattle.buildvrt.proofs.Skips.{all_within}
use Rattle.error_lines.specs.declared.faults.Fault.{Fault}
use Rattle.error_lines.specs.declared.faults.Fault.TheVariants.{Memory, SameName}
use Rattle.error_lines.specs.Faults.{IsOutside, by_build}
use Rattle.published_files.specs.Names.{unless_own, is_read}
use Rattle.mosaic_builds.specs.Built.{Built, built_of, built_in, warnings_of}
use Rattle.mosaic_builds.specs.Ends.{IsOfBuilding}
use Rattle.mosaic_builds.specs.Inputs.{names_in}
use Rattle.mosaic_builds.specs.Walks.{walked_all, heads_of, heads_at, AreNumbers}
use Rattle.mosaic_builds.proofs.Heads.{heads_named}

-- the skipped inputs are among the inputs
skipped_are : (o : Options) (heads : List DatasetHead) (j : JudgedValue) (s : Result (Unit {0}) BuildFault) (d : Result DocumentValue BuildFault) (made : DocumentValue × List Skipped) → (s >>= λ strict. (d >>= λ document. Ok (document, j.skipped))) ≡ Ok made → j.skipped ≡ made.1
skipped_are o heads j (Ok x) (Ok y) made is = cc
skipped_are o heads j (Ok x) (Err e) made is = let no : ⊥ = cc in absurd no
skipped_are o heads j (Err e) d made is = let no : ⊥ = cc in absurd no

pub made_within : (o : Options) (heads : List DatasetHead) (made : DocumentValue × List Skipped) → mosaic_of o heads ≡ Ok made → All (IsOneOf (length heads)) made.1
unfolding mosaic_by
made_within o heads made is = subst (λ (l : List Skipped). All (IsOneOf (length heads)) l) (skipped_are o heads (judged_of o heads) (strictly o heads (judged_of o heads).skipped) (document_by o (judged_of o heads).tiles) made is) (all_within o heads (judged_of o heads) refl)

-- the name that is refused is that of the mosaic
abbrev nothing : Result (Unit {0}) Fault
nothing = Ok tt

own_by : (b : Bool) (name : List ℕ) (f : Fault) → cond b (Err (SameName name)) nothing ≡ Err f → IsOfBuilding name f
own_by true name f is = let same : SameName name ≡ f = cc in subst (IsOfBuilding name) same refl
own_by false name f is = let no : ⊥ = cc in absurd no

pub own_building : (cat : List Dataset) (name : List ℕ) (f : Fault) → (f ≡ Memory) ⊎ (unless_own cat name ≡ Err f) → IsOfBuilding name f
own_building cat name f (inl memory) = subst (IsOfBuilding name) (sym memory) tt
own_building cat name f (inr is) = own_by (is_read cat name) name f is

-- what is refused of the mosaic, and of its name
mosaic_first : (o : Options) (cat : List Dataset) (heads : List DatasetHead) (f : Fault) → by_build (mosaic_of o heads) ≡ Err f → built_of o cat heads ≡ Err f
unfolding built_of
mosaic_first o cat heads f is = ap (λ (r : Result (DocumentValue × List Skipped) Fault). r >>= λ made. (unless_own cat o.out >>= λ free. Ok (record { document = made.0; warnings = warnings_of heads made.1 }))) is

pub refused_mosaic : (o : Options) (cat : List Dataset) (heads : List DatasetHead) (f : Fault) → (f ≡ Memory) ⊎ (by_build (mosaic_of o heads) ≡ Err f) → (f ≡ Memory) ⊎ (built_of o cat heads ≡ Err f)
refused_mosaic o cat heads f (inl memory) = inl memory
refused_mosaic o cat heads f (inr is) = inr (mosaic_first o cat heads f is)

freed : (o : Options) (cat : List Dataset) (heads : List DatasetHead) (made : DocumentValue × List Skipped) → by_build (mosaic_of o heads) ≡ Ok made → built_of o cat heads ≡ (unless_own cat o.out >>= λ free. Ok (record { document = made.0; warnings = warnings_of heads made.1 }))
unfolding built_of
freed o cat heads made is = ap (λ (r : Result (DocumentValue × List Skipped) Fault). r >>= λ made. (unless_own cat o.out >>= λ free. Ok (record { document = made.0; warnings = warnings_of heads made.1 }))) is

pub refused_own : (o : Options) (cat : List Dataset) (heads : List DatasetHead) (made : DocumentValue × List Skipped) (f : Fault) → by_build (mosaic_of o heads) ≡ Ok made → (f ≡ Memory) ⊎ (unless_own cat o.out ≡ Err f) → (f ≡ Memory) ⊎ (built_of o cat heads ≡ Err f)
refused_own o cat heads made f is (inl memory) = inl memory
refused_own o cat heads made f is (inr own) = inr (freed o cat heads made is ∙ ap (λ (r : Result (Unit {0}) Fault). r >>= λ free. Ok (record { document = made.0; warnings = warnings_of heads made.1 })) own)

pub built_so : (o : Options) (cat : List Dataset) (heads : List DatasetHead) (made : DocumentValue × List Skipped) → by_build (mosaic_of o heads) ≡ Ok made → unless_own cat o.out ≡ Ok tt → built_of o cat heads ≡ Ok (record { document = made.0; warnings = warnings_of heads made.1 })
built_so o cat heads made is own = freed o cat heads made is ∙ ap (λ (r : Result (Unit {0}) Fault). r >>= λ free. Ok (record { document = made.0; warnings = warnings_of heads made.1 })) own

-- what is refused of the names, of the walks, and of what is built
abbrev behind_names : Files → Bool → Options → List (List ℕ) → Result Built Fault
behind_names m verify o names = walked_all m verify [] names >>= λ cat. built_of o cat (heads_of cat names)

names_first : (m : Files) (verify : Bool) (inputs : List (List ℕ)) (list : Option (List ℕ)) (o : Options) (f : Fault) → names_in m inputs list ≡ Err f → built_in m verify inputs list o ≡ Err f
unfolding built_in
names_first m verify inputs list o f is = ap (λ (r : Result (List (List ℕ)) Fault). r >>= behind_names m verify o) is

pub refused_names : (m : Files) (verify : Bool) (inputs : List (List ℕ)) (list : Option (List ℕ)) (o : Options) (f : Fault) → IsOutside f ⊎ (names_in m inputs list ≡ Err f) → IsOutside f ⊎ (built_in m verify inputs list o ≡ Err f)
refused_names m verify inputs list o f (inl out) = inl out
refused_names m verify inputs list o f (inr is) = inr (names_first m verify inputs list o f is)

named : (m : Files) (verify : Bool) (inputs : List (List ℕ)) (list : Option (List ℕ)) (o : Options) (names : List (List ℕ)) → names_in m inputs list ≡ Ok names → built_in m verify inputs list o ≡ behind_names m verify o names
unfolding built_in
named m verify inputs list o names is = ap (λ (r : Result (List (List ℕ)) Fault). r >>= behind_names m verify o) is

pub refused_walks : (m : Files) (verify : Bool) (inputs : List (List ℕ)) (list : Option (List ℕ)) (o : Options) (names : List (List ℕ)) (cat : List Dataset) (f : Fault) → names_in m inputs list ≡ Ok names → cat ≡ [] → IsOutside f ⊎ (walked_all m verify cat names ≡ Err f) → IsOutside f ⊎ (built_in m verify inputs list o ≡ Err f)
refused_walks m verify inputs list o names cat f is none (inl out) = inl out
refused_walks m verify inputs list o names cat f is none (inr walk) =
    inr (named m verify inputs list o names is ∙ ap (λ (r : Result (List Dataset) Fault). r >>= λ cat. built_of o cat (heads_of cat names)) (ap (λ (c : List Dataset). walked_all m verify c names) (sym none) ∙ walk))

built_is : (m : Files) (verify : Bool) (inputs : List (List ℕ)) (list : Option (List ℕ)) (o : Options) (names : List (List ℕ)) (none cat : List Dataset) (ids : List ℕ) → names_in m inputs list ≡ Ok names → none ≡ [] → walked_all m verify none names ≡ Ok cat → AreNumbers cat names ids → built_in m verify inputs list o ≡ built_of o cat (heads_at cat ids)
built_is m verify inputs list o names none cat ids is empty walk are =
    named m verify inputs list o names is
    ∙ ap (λ (r : Result (List Dataset) Fault). r >>= λ cat. built_of o cat (heads_of cat names)) (ap (λ (c : List Dataset). walked_all m verify c names) (sym empty) ∙ walk)
    ∙ ap (built_of o cat) (heads_named cat names ids are.each)

pub built_gives : {T : Type 0} (view : T → Built) (m : Files) (verify : Bool) (inputs : List (List ℕ)) (list : Option (List ℕ)) (o : Options) (names : List (List ℕ)) (none cat : List Dataset) (ids : List ℕ) (r : Result T Fault) → names_in m inputs list ≡ Ok names → none ≡ [] → walked_all m verify none names ≡ Ok cat → AreNumbers cat names ids → Gives (λ f. f ≡ Memory) view r (built_of o cat (heads_at cat ids)) → Gives IsOutside view r (built_in m verify inputs list o)
built_gives view m verify inputs list o names none cat ids (Ok x) is empty walk are gives = built_is m verify inputs list o names none cat ids is empty walk are ∙ gives
built_gives view m verify inputs list o names none cat ids (Err f) is empty walk are (inl memory) = inl (rw memory tt)
built_gives view m verify inputs list o names none cat ids (Err f) is empty walk are (inr refused) = inr (built_is m verify inputs list o names none cat ids is empty walk are ∙ refused)
