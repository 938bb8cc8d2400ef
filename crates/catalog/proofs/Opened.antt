-- What a walk leaves in a catalog.
use Rattle.std.proofs.Common.{◌≡◌, ◌∙◌, ◌⊎◌, inl, inr, ◌<◌, ◌≤◌, ap, sym, subst, refl, ℕ, List, [], ◌++◌, length, take, drop, Bool, true, Option, Some, None, is_some, IsTrue, Result, Ok, Err, arith, true≢false}
use Rattle.std.specs.Prelude.{slice_get, option_map, option_and_then}
use Rattle.std.proofs.lemmas.Option.{slice_get_within}
use Rattle.std.proofs.lemmas.List.{take-append-drop}
use Rattle.std.proofs.lemmas.List.Elements.{All-nil}
use Rattle.lists_and_answers.specs.Answers.{◌>>=◌}
use Rattle.outside.specs.Outside.{Files}
use Rattle.catalog.specs.declared.faults.WalkFault.{WalkFault}
use Rattle.catalog.specs.declared.links.Link.{Link}
use Rattle.vrt_profile.specs.Values.{SourceValue}
use Rattle.catalog.specs.Drivers.{Dataset}
use Rattle.catalog.specs.Outcomes.{IsOutside}
use Rattle.catalog.specs.Walk.{Met, visit, walked, met_at_first, IsDataset, IsNested}
use Rattle.catalog.specs.Links.{source_at, member_at, height_of}
use Rattle.catalog.specs.Linked.{State, met_of, height_at, height_in, IsMet, IsWholeWalk, Grows, cut_to}
use Rattle.catalog.specs.Walking.{Seen, Visits}
use Rattle.catalog.proofs.Found.{some_is}
use Rattle.catalog.proofs.States.{front_stays, item_there}
use Rattle.catalog.proofs.Members.{IsKept, kept, height_known, falls_below}
use Rattle.catalog.proofs.Wholes.{whole_path, cut_back}

whole_met : (st : State) → IsWholeWalk st → met_of st ≡ met_at_first st.datasets
whole_met st whole = λ i. record { datasets = st.datasets; sources = whole.counted i }

module _ (verify : Bool) (name : List ℕ) (a b : Seen) (old new : State) (whole : IsWholeWalk old) where
  pub open_told : (id : ℕ) (m : Files) → Visits verify 16 name a b old new (Ok id) → a.names ≡ Some m → walked m verify old.datasets name ≡ Ok new.datasets
  unfolding walked
  open_told id m v told =
      ap (λ met. visit m verify 16 [] met name >>= λ met. Ok met.datasets) (sym (whole_met old whole))
      ∙ ap (λ (r : Result Met WalkFault). r >>= λ met. Ok met.datasets) (v.told m told [] (whole_path old whole))

  pub refused_told : (f : WalkFault) (m : Files) → Visits verify 16 name a b old new (Err f) → a.names ≡ Some m → IsOutside f ⊎ (walked m verify old.datasets name ≡ Err f)
  unfolding walked
  refused_told f m v told = by_told (v.told m told [] (whole_path old whole))
    where
      by_told : IsOutside f ⊎ (visit m verify 16 [] (met_of old) name ≡ Err f) → IsOutside f ⊎ ((visit m verify 16 [] (met_at_first old.datasets) name >>= λ met. Ok met.datasets) ≡ Err f)
      by_told (inl free) = inl free
      by_told (inr is) = inr (ap (λ met. visit m verify 16 [] met name >>= λ met. Ok met.datasets) (sym (whole_met old whole)) ∙ ap (λ (r : Result Met WalkFault). r >>= λ met. Ok met.datasets) is)

pub datasets_kept : (old new : State) → Grows old new → take (length old.datasets) new.datasets ≡ old.datasets
datasets_kept old new grows = front_stays old.datasets new.datasets grows.datasets

-- what begins with a list is that list and more
pub goes_on : (xs ys : List Dataset) → take (length xs) ys ≡ xs → (more : List Dataset) × (ys ≡ xs ++ more)
goes_on xs ys front = (drop (length xs) ys, sym (take-append-drop (length xs) ys) ∙ ap (λ (zs : List Dataset). zs ++ drop (length xs) ys) front)

-- a refusal leaves what was met before
pub cut_same : (old new last : State) (count sources : ℕ) → IsWholeWalk old → Grows old new → count ≡ length old.datasets → sources ≡ old.sources → last ≡ cut_to new count sources → last ≡ old
cut_same old new last count sources whole grows counted more is =
    is ∙ ap (λ n. cut_to new n sources) counted ∙ ap (λ n. cut_to new (length old.datasets) n) more ∙ cut_back old new whole grows

none≢some : {T : Type 0} {x : T} → None ≡ Some x → ⊥
none≢some e = cc

-- the empty catalog

empty : State
empty = record { datasets = []; links = []; sources = 0 }

pub whole_empty : (st : State) → st ≡ record { datasets = []; links = []; sources = 0 } → IsWholeWalk st
unfolding empty
whole_empty st is = subst IsWholeWalk (sym is) whole
  where
    whole : IsWholeWalk empty
    whole = record {
      linked = record { long = refl; each = All-nil IsDataset; few = omega arith; sources = omega arith; apart = λ id d at. absurd (none≢some at); whole = λ id d l at whole. absurd (none≢some at) };
      catalog = record { each = All-nil IsDataset; few = omega arith; sources = omega arith; apart = λ id d at. absurd (none≢some at); nested = All-nil (λ d. IsNested 16 [] d) };
      closed = λ id x is. absurd (none≢some is);
      counted = refl;
    }

-- datasets by number

pub record IsKnownAt (st : State) (id : ℕ) (link : Option Link) : Type 0 where
  pub dataset : Dataset
  pub value : Link
  pub link_is : link ≡ Some value
  pub met : IsMet st id dataset value

pub known_at : (st : State) → IsWholeWalk st → (id : ℕ) (link : Option Link) → id < length st.datasets → slice_get st.links id ≡ Some link → IsKnownAt st id link
known_at st whole id link within is =
    let d = item_there st.datasets id within in
    let l = whole.closed id link is in
    record { dataset = d.0; value = l.0; link_is = l.1; met = record { at = d.1; whole = is ∙ ap Some l.1 } }

pub links_within : (st : State) → IsWholeWalk st → (id : ℕ) → id < length st.datasets → id < length st.links
links_within st whole id within = omega (arith, whole.linked.long)

pub height_told : (st : State) → IsWholeWalk st → (id height : ℕ) → id < length st.datasets → height ≡ height_at st.links id → option_map (λ d. height_of st.datasets d) (slice_get st.datasets id) ≡ Some height
height_told st whole id height within is =
    let there = item_there st.links id (links_within st whole id within) in
    let k = known_at st whole id there.0 within there.1 in
    ap (option_map (λ d. height_of st.datasets d)) k.met.at ∙ ap Some (height_known st whole.linked id k.dataset k.value k.met ∙ sym (is ∙ ap height_in k.met.whole))

pub height_low : (st : State) → IsWholeWalk st → (id height : ℕ) → id < length st.datasets → height ≡ height_at st.links id → height ≤ 16
height_low st whole id height within is =
    let there = item_there st.links id (links_within st whole id within) in
    let k = known_at st whole id there.0 within there.1 in
    let h : height ≡ k.value.height = is ∙ ap height_in k.met.whole in
    omega (arith, (whole.linked.whole id k.dataset k.value k.met.at k.met.whole).shallow)

-- sources of a dataset by number

abbrev pub HasSourceAt : List Dataset → ℕ → ℕ → ℕ → Type 0
HasSourceAt cat id band source = IsTrue (is_some (option_and_then (λ d. source_at d band source) (slice_get cat id)))

pub source_within : (st : State) (id band source : ℕ) → HasSourceAt st.datasets id band source → id < length st.datasets
source_within st id band source there = by_item (slice_get st.datasets id) refl there
  where
    by_item : (o : Option Dataset) → slice_get st.datasets id ≡ o → is_some (option_and_then (λ (d : Dataset). source_at d band source) o) ≡ true → id < length st.datasets
    by_item None is some = absurd (true≢false (sym some))
    by_item (Some d) is some = slice_get_within st.datasets id d is

source_of : (st : State) (id band source : ℕ) (d : Dataset) → slice_get st.datasets id ≡ Some d → HasSourceAt st.datasets id band source → (s : SourceValue) × (source_at d band source ≡ Some s)
source_of st id band source d at there = by_source (source_at d band source) refl (sym (ap (λ o. is_some (option_and_then (λ (d : Dataset). source_at d band source) o)) at) ∙ there)
  where
    by_source : (o : Option SourceValue) → source_at d band source ≡ o → is_some o ≡ true → (s : SourceValue) × (source_at d band source ≡ Some s)
    by_source None is some = absurd (true≢false (sym some))
    by_source (Some s) is some = (s, is)

-- what is kept of a source of a dataset
pub record IsKeptAt (st : State) (id band source : ℕ) (l : Link) : Type 0 where
  pub dataset : Dataset
  pub met : IsMet st id dataset l
  pub fits : IsKept st dataset l band source

pub kept_at : (st : State) → IsWholeWalk st → (id band source : ℕ) (l : Link) → HasSourceAt st.datasets id band source → slice_get st.links id ≡ Some (Some l) → IsKeptAt st id band source l
kept_at st whole id band source l there at =
    let d = item_there st.datasets id (source_within st id band source there) in
    let s = source_of st id band source d.0 d.1 there in
    let met : IsMet st id d.0 l = record { at = d.1; whole = at } in
    record { dataset = d.0; met = met; fits = kept st whole.linked id d.0 l band source s.0 met s.1 }

module _ (st : State) (whole : IsWholeWalk st) (id band source : ℕ) (l : Link) (there : HasSourceAt st.datasets id band source) (at : slice_get st.links id ≡ Some (Some l)) where
  k : IsKeptAt st id band source l
  k = kept_at st whole id band source l there at

  pub band_within : band < length l.members
  band_within = slice_get_within l.members band k.fits.row k.fits.row_at

  module _ (row : List ℕ) (row_is : slice_get l.members band ≡ Some row) where
    same_row : k.fits.row ≡ row
    same_row = some_is (sym k.fits.row_at ∙ row_is)

    pub source_in_row : source < length row
    source_in_row = subst (λ (r : List ℕ). source < length r) same_row (slice_get_within k.fits.row source k.fits.id k.fits.id_at)

    module _ (member : ℕ) (member_is : slice_get row source ≡ Some member) where
      same_id : k.fits.id ≡ member
      same_id = some_is (sym k.fits.id_at ∙ ap (λ (r : List ℕ). slice_get r source) same_row ∙ member_is)

      pub member_told : option_and_then (λ d. member_at st.datasets d band source) (slice_get st.datasets id) ≡ Some member
      member_told = ap (option_and_then (λ (d : Dataset). member_at st.datasets d band source)) k.met.at ∙ k.fits.member ∙ ap Some same_id

      pub member_known : member < length st.datasets
      member_known = subst (λ (n : ℕ). n < length st.datasets) same_id (slice_get_within st.datasets k.fits.id k.fits.fits.dataset k.fits.fits.at)

      pub member_below : (d t : Dataset) → slice_get st.datasets id ≡ Some d → slice_get st.datasets member ≡ Some t → height_of st.datasets t < height_of st.datasets d
      member_below d t d_at t_at =
          let same : k.dataset ≡ d = some_is (sym k.met.at ∙ d_at) in
          subst (λ (x : Dataset). height_of st.datasets t < height_of st.datasets x) same
          (falls_below st whole.linked id k.dataset l band source t k.met k.fits (ap (slice_get st.datasets) same_id ∙ t_at))
