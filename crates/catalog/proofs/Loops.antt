-- The walk through the sources of a mosaic, one behind the other.
use Rattle.std.proofs.Common.{◌≡◌, ◌∙◌, ◌⊎◌, ◌+◌, ◌≤◌, ap, sym, subst, ℕ, zero, suc, List, [], ◌∷◌, ◌++◌, length, take, drop, Some, None, Result, Ok, Err, arith, add-one, length-append}
use Rattle.std.specs.Prelude.{slice_get, flat_map}
use Rattle.std.proofs.lemmas.Grind.{flat_map-append}
use Rattle.lists_and_answers.specs.Answers.{◌>>=◌}
use Rattle.vrt_profile.specs.Values.{SourceValue, BandValue}
use Rattle.catalog.specs.declared.faults.WalkFault.{WalkFault}
use Rattle.catalog.specs.Outcomes.{IsOutside}
use Rattle.catalog.specs.Walk.{Met, visit_source, visit_sources}
use Rattle.catalog.specs.Linked.{State, IsLinked, IsMember, Grows, Each, height_at, most}
use Rattle.catalog.proofs.Found.{each_more, each_map, member_stays, most_stays}
use Rattle.catalog.proofs.Rows.{most_append}
use Rattle.catalog.proofs.Visits.{sources_append, still_refused}

none≢some : {T : Type 0} {x : T} → None ≡ Some x → ⊥
none≢some e = cc

-- an item between what stands before it and behind it
pub item_more : {T : Type 0} (xs : List T) (k : ℕ) (x : T) → slice_get xs k ≡ Some x → take (k + 1) xs ≡ take k xs ++ x ∷ []
item_more {T} xs k x is = ap (λ n. take n xs) (add-one k) ∙ by_place xs k is
  where
    by_place : (xs : List T) (k : ℕ) → slice_get xs k ≡ Some x → take (suc k) xs ≡ take k xs ++ x ∷ []
    by_place [] k is = absurd (none≢some is)
    by_place (y ∷ ys) zero is = (let e : y ≡ x = cc in ap (λ z. z ∷ []) e)
    by_place (y ∷ ys) (suc k) is = ap (λ zs. y ∷ zs) (by_place ys k is)

pub item_split : {T : Type 0} (xs : List T) (k : ℕ) (x : T) → slice_get xs k ≡ Some x → xs ≡ take k xs ++ (x ∷ drop (suc k) xs)
item_split [] k x is = absurd (none≢some is)
item_split (y ∷ ys) zero x is = (let e : y ≡ x = cc in ap (λ z. z ∷ ys) e)
item_split (y ∷ ys) (suc k) x is = ap (λ zs. y ∷ zs) (item_split ys k x is)

-- sources of a band

pub sources_more : (f : Met → List ℕ → Result Met WalkFault) (base : List ℕ) (met here after : Met) (ss : List SourceValue) (k : ℕ) (s : SourceValue) → slice_get ss k ≡ Some s → visit_sources f base met (take k ss) ≡ Ok here → visit_source f base here s ≡ Ok after → visit_sources f base met (take (k + 1) ss) ≡ Ok after
sources_more f base met here after ss k s is before visited =
    ap (visit_sources f base met) (item_more ss k s is) ∙ sources_append f base met (take k ss) (s ∷ [])
    ∙ ap (λ r. r >>= λ a. visit_sources f base a (s ∷ [])) before ∙ ap (λ r. r >>= λ a. visit_sources f base a []) visited

pub sources_stop : (f : Met → List ℕ → Result Met WalkFault) (base : List ℕ) (met here : Met) (ss : List SourceValue) (k : ℕ) (s : SourceValue) (fault : WalkFault) → slice_get ss k ≡ Some s → visit_sources f base met (take k ss) ≡ Ok here → IsOutside fault ⊎ (visit_source f base here s ≡ Err fault) → IsOutside fault ⊎ (visit_sources f base met ss ≡ Err fault)
sources_stop f base met here ss k s fault is before refused =
    subst (λ (r : Result Met WalkFault). IsOutside fault ⊎ (r ≡ Err fault))
    (sym (ap (visit_sources f base met) (item_split ss k s is) ∙ sources_append f base met (take k ss) (s ∷ drop (suc k) ss) ∙ ap (λ r. r >>= λ a. visit_sources f base a (s ∷ drop (suc k) ss)) before))
    (still_refused (visit_source f base here s) (λ a. visit_sources f base a (drop (suc k) ss)) fault refused)

-- sources of all bands

abbrev sources_from : List BandValue → List SourceValue
sources_from bands = flat_map (λ (b : BandValue). b.sources) bands

pub from_more : (bands : List BandValue) (k : ℕ) (b : BandValue) → slice_get bands k ≡ Some b → sources_from (take (k + 1) bands) ≡ sources_from (take k bands) ++ (b.sources ++ [])
from_more bands k b is = ap sources_from (item_more bands k b is) ∙ flat_map-append (λ (b : BandValue). b.sources) (take k bands) (b ∷ [])

pub bands_more : (f : Met → List ℕ → Result Met WalkFault) (base : List ℕ) (met here after : Met) (bands : List BandValue) (k : ℕ) (b : BandValue) → slice_get bands k ≡ Some b → visit_sources f base met (flat_map (λ (b : BandValue). b.sources) (take k bands)) ≡ Ok here → visit_sources f base here b.sources ≡ Ok after → visit_sources f base met (flat_map (λ (b : BandValue). b.sources) (take (k + 1) bands)) ≡ Ok after
bands_more f base met here after bands k b is before visited =
    ap (visit_sources f base met) (from_more bands k b is) ∙ sources_append f base met (sources_from (take k bands)) (b.sources ++ [])
    ∙ ap (λ r. r >>= λ a. visit_sources f base a (b.sources ++ [])) before ∙ sources_append f base here b.sources [] ∙ ap (λ r. r >>= λ a. visit_sources f base a []) visited

pub bands_stop : (f : Met → List ℕ → Result Met WalkFault) (base : List ℕ) (met here : Met) (bands : List BandValue) (k : ℕ) (b : BandValue) (fault : WalkFault) → slice_get bands k ≡ Some b → visit_sources f base met (flat_map (λ (b : BandValue). b.sources) (take k bands)) ≡ Ok here → IsOutside fault ⊎ (visit_sources f base here b.sources ≡ Err fault) → IsOutside fault ⊎ (visit_sources f base met (flat_map (λ (b : BandValue). b.sources) bands) ≡ Err fault)
bands_stop f base met here bands k b fault is before refused =
    let rest = sources_from (drop (suc k) bands) in
    subst (λ (r : Result Met WalkFault). IsOutside fault ⊎ (r ≡ Err fault))
    (sym (ap (λ bs. visit_sources f base met (sources_from bs)) (item_split bands k b is) ∙ ap (visit_sources f base met) (flat_map-append (λ (b : BandValue). b.sources) (take k bands) (b ∷ drop (suc k) bands)) ∙ sources_append f base met (sources_from (take k bands)) (b.sources ++ rest) ∙ ap (λ r. r >>= λ a. visit_sources f base a (b.sources ++ rest)) before ∙ sources_append f base here b.sources rest))
    (still_refused (visit_sources f base here b.sources) (λ a. visit_sources f base a rest) fault refused)

nothing : List SourceValue
nothing = []

pub bands_counted : (bands : List BandValue) (k : ℕ) (b : BandValue) → slice_get bands k ≡ Some b → length (flat_map (λ (b : BandValue). b.sources) (take k bands)) + length b.sources ≡ length (flat_map (λ (b : BandValue). b.sources) (take (k + 1) bands))
unfolding nothing
bands_counted bands k b is = omega (arith, ap length (from_more bands k b is), length-append (sources_from (take k bands)) (b.sources ++ []), length-append b.sources nothing)

-- what is named

pub row_more : (old new : State) (base : List ℕ) (ss : List SourceValue) (row : List ℕ) (k id : ℕ) (s : SourceValue) → slice_get ss k ≡ Some s → Grows old new → IsLinked new → Each (IsMember old base) (take k ss) row → IsMember new base s id → Each (IsMember new base) (take (k + 1) ss) (row ++ id ∷ [])
row_more old new base ss row k id s is grows linked before member =
    subst (λ (xs : List SourceValue). Each (IsMember new base) xs (row ++ id ∷ [])) (sym (item_more ss k s is))
    (each_more (IsMember new base) (take k ss) row s id (each_map (IsMember old base) (IsMember new base) (take k ss) row (λ x i. member_stays old new base x i grows linked.apart) before) member)

pub low_more : (old new : State) (base : List ℕ) (ss : List SourceValue) (row : List ℕ) (id room : ℕ) → Grows old new → Each (IsMember old base) ss row → most old.links row ≤ room → height_at new.links id ≤ room → most new.links (row ++ id ∷ []) ≤ room
low_more old new base ss row id room grows before low here = omega (arith, most_append new.links row (id ∷ []), most_stays old new base ss row grows before)
