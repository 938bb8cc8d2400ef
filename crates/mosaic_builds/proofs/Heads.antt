-- The heads of walked inputs.
use Rattle.std.proofs.Common.{◌≡◌, ◌∙◌, ap, sym, refl, ℕ, zero, suc, ◌+◌, ◌<◌, arith, List, [], ◌∷◌, ◌++◌, length, take, get_or, map, Option, Some, None}
use Rattle.std.specs.Prelude.{slice_get, option_map}
use Rattle.catalog.specs.Dataset.{DatasetHead}
use Rattle.catalog.specs.Drivers.{Dataset}
use Rattle.catalog.specs.Walk.{dataset_number_in, dataset_named}
use Rattle.buildvrt.proofs.Filled.{kept_number}
use Rattle.mosaic_builds.specs.Walks.{AreKnown, head_of, head_at, heads_at, heads_of}

-- one input more
one_head : (cat : List Dataset) (id : ℕ) (head : DatasetHead) → head_at cat id ≡ Some head → heads_at cat (id ∷ []) ≡ head ∷ []
one_head cat id head is = rw is

pub one_more_input : (cat : List Dataset) (ids : List ℕ) (i : ℕ) (old new : List DatasetHead) (head : DatasetHead) → i < length ids → old ≡ heads_at cat (take i ids) → head_at cat (get_or ids i 0) ≡ Some head → new ≡ old ++ head ∷ [] → new ≡ heads_at cat (take (i + 1) ids)
one_more_input cat ids i old new head less is at put =
    kept_number (head_at cat) ids i old new less is (put ∙ ap (λ (l : List DatasetHead). old ++ l) (sym (one_head cat (get_or ids i 0) head at)))

-- the numbers of names lead to the heads of the names
none≢some : {T : Type 0} {x : T} → None ≡ Some x → ⊥
none≢some e = cc

some_is : {T : Type 0} {x y : T} → Some x ≡ Some y → x ≡ y
some_is e = cc

abbrev pub numbers : List Dataset → List (List ℕ) → List (Option ℕ)
numbers cat names = map (λ (name : List ℕ). dataset_number_in cat name) names

abbrev pub somes : List ℕ → List (Option ℕ)
somes ids = map (λ (id : ℕ). Some id) ids

first_is : (cat : List Dataset) (name : List ℕ) (names : List (List ℕ)) (id : ℕ) (ids : List ℕ) → numbers cat (name ∷ names) ≡ somes (id ∷ ids) → dataset_number_in cat name ≡ Some id
first_is cat name names id ids is = cc

others_are : (cat : List Dataset) (name : List ℕ) (names : List (List ℕ)) (id : ℕ) (ids : List ℕ) → numbers cat (name ∷ names) ≡ somes (id ∷ ids) → numbers cat names ≡ somes ids
others_are cat name names id ids is = cc

named : (cat : List Dataset) (name : List ℕ) (id : ℕ) → dataset_number_in cat name ≡ Some id → dataset_named cat name ≡ slice_get cat id
named cat name id is = rw is

pub heads_named : (cat : List Dataset) (names : List (List ℕ)) (ids : List ℕ) → numbers cat names ≡ somes ids → heads_of cat names ≡ heads_at cat ids
heads_named cat [] [] is = refl
heads_named cat [] (id ∷ ids) is = let no : ⊥ = cc in absurd no
heads_named cat (name ∷ names) [] is = let no : ⊥ = cc in absurd no
heads_named cat (name ∷ names) (id ∷ ids) is =
    let here = named cat name id (first_is cat name names id ids is) in
    let more = heads_named cat names ids (others_are cat name names id ids is) in
    rw (here, more)

-- as many heads as numbers, each at its place
has_head : (cat : List Dataset) (id : ℕ) → id < length cat → (d : Dataset) × (slice_get cat id ≡ Some d)
has_head [] id less = absurd (omega arith)
has_head (d ∷ cat) zero less = (d, refl)
has_head (d ∷ cat) (suc id) less = has_head cat id (omega arith)

some_head : (cat : List Dataset) (id : ℕ) → id < length cat → (h : DatasetHead) × (head_at cat id ≡ Some h)
some_head cat id less = let at = has_head cat id less in (at.0.head, ap (option_map head_of) at.1)

known_first : (cat : List Dataset) (id : ℕ) (ids : List ℕ) → AreKnown cat (id ∷ ids) → id < length cat
known_first cat id ids all = all 0 id (omega arith)

known_rest : (cat : List Dataset) (id : ℕ) (ids : List ℕ) → AreKnown cat (id ∷ ids) → AreKnown cat ids
known_rest cat id ids all = λ k d less. all (suc k) d (omega arith)

pub heads_long : (cat : List Dataset) (ids : List ℕ) → AreKnown cat ids → length (heads_at cat ids) ≡ length ids
heads_long cat [] all = refl
heads_long cat (id ∷ ids) all =
    let here = some_head cat id (known_first cat id ids all) in
    let more = heads_long cat ids (known_rest cat id ids all) in
    rw here.1 (omega (arith, more))

pub head_there : (cat : List Dataset) (ids : List ℕ) (i id : ℕ) → AreKnown cat ids → slice_get ids i ≡ Some id → slice_get (heads_at cat ids) i ≡ head_at cat id
head_there cat [] i id all at = absurd (none≢some at)
head_there cat (k ∷ ids) zero id all at =
    let here = some_head cat k (known_first cat k ids all) in
    let same : k ≡ id = some_is at in
    rw here.1 (sym here.1 ∙ ap (head_at cat) same)
head_there cat (k ∷ ids) (suc i) id all at =
    let here = some_head cat k (known_first cat k ids all) in
    rw here.1 (head_there cat ids i id (known_rest cat k ids all) at)
