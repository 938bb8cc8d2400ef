-- The datasets of names, and the datasets that sources name.
use Rattle.std.proofs.Common.{◌≡◌, ◌∙◌, ◌+◌, ap, sym, subst, refl, cond, ℕ, suc, List, [], ◌∷◌, ◌++◌, Bool, true, false, Some, None, is_some, arith, true≢false, bytes_eq}
use Rattle.std.specs.Prelude.{All, slice_get, flat_map, max}
use Rattle.std.proofs.lemmas.Option.{slice_get_within, get_or_from_slice_get}
use Rattle.std.proofs.lemmas.Slice.Eq.{bytes_eq-Decides}
use Rattle.lists_and_answers.specs.Lists.{flattened}
use Rattle.vrt_profile.specs.Values.{SourceValue, BandValue}
use Rattle.catalog.specs.declared.links.Link.{Link}
use Rattle.catalog.specs.Drivers.{Dataset}
use Rattle.catalog.specs.Walk.{number_from, dataset_number_in, dataset_named, IsApart}
use Rattle.catalog.specs.Linked.{State, Grows, IsMember, Each, AreMemberRows, height_in, height_at, most}

none≢some : {T : Type 0} {x : T} → None ≡ Some x → ⊥
none≢some e = true≢false (sym (ap is_some e))

pub some_is : {T : Type 0} {x y : T} → Some x ≡ Some y → x ≡ y
some_is e = cc

-- what holds of each item holds of the one at a place
pub of_item : {T : Type 0} (P : T → Type 0) (xs : List T) (id : ℕ) (x : T) → All P xs → slice_get xs id ≡ Some x → P x
of_item P xs id x all at = subst P (get_or_from_slice_get xs id x x at) (all id x (slice_get_within xs id x at))

-- what stands at the number of a name
pub record IsNamedAt (cat : List Dataset) (name : List ℕ) (id : ℕ) : Type 0 where
  pub dataset : Dataset
  pub at : slice_get cat id ≡ Some dataset
  pub named : dataset.head.name ≡ name

pub record IsFrom (at : ℕ) (cat : List Dataset) (name : List ℕ) (id : ℕ) : Type 0 where
  pub place : ℕ
  pub counted : id ≡ at + place
  pub there : IsNamedAt cat name place

from_step : (at : ℕ) (c : Dataset) (cs : List Dataset) (name : List ℕ) (id : ℕ) (b : Bool) → bytes_eq c.head.name name ≡ b → cond b (Some at) (number_from (suc at) cs name) ≡ Some id
    → (number_from (suc at) cs name ≡ Some id → IsFrom (suc at) cs name id) → IsFrom at (c ∷ cs) name id
from_step at c cs name id true e is rest =
    let same : at ≡ id = some_is is in
    record { place = 0; counted = omega arith; there = record { dataset = c; at = refl; named = (bytes_eq-Decides c.head.name name).0 e } }
from_step at c cs name id false e is rest =
    let r = rest is in
    let counted : id ≡ suc at + r.place = r.counted in
    record { place = suc r.place; counted = omega arith; there = record { dataset = r.there.dataset; at = r.there.at; named = r.there.named } }

found_from : (at : ℕ) (cat : List Dataset) (name : List ℕ) (id : ℕ) → number_from at cat name ≡ Some id → IsFrom at cat name id
found_from at [] name id is = absurd (none≢some is)
found_from at (c ∷ cs) name id is = from_step at c cs name id (bytes_eq c.head.name name) refl is (λ h. found_from (suc at) cs name id h)

pub found : (cat : List Dataset) (name : List ℕ) (id : ℕ) → dataset_number_in cat name ≡ Some id → IsNamedAt cat name id
found cat name id is =
    let f = found_from 0 cat name id is in
    let same : f.place ≡ id = (let e : id ≡ 0 + f.place = f.counted in omega arith) in
    subst (λ k. IsNamedAt cat name k) same f.there

-- the dataset of a name whose number is known
pub named_at : (cat : List Dataset) (name : List ℕ) (id : ℕ) (d : Dataset) → dataset_number_in cat name ≡ Some id → slice_get cat id ≡ Some d → dataset_named cat name ≡ Some d
named_at cat name id d is at = rw is at

pub name_at : (cat : List Dataset) (name : List ℕ) (id : ℕ) (d : Dataset) → dataset_number_in cat name ≡ Some id → slice_get cat id ≡ Some d → d.head.name ≡ name
name_at cat name id d is at =
    let f = found cat name id is in
    ap (λ (x : Dataset). x.head.name) (some_is (sym at ∙ f.at)) ∙ f.named

-- a number stays
pub number_stays : (old new : State) (name : List ℕ) (id : ℕ) → Grows old new → IsApart new.datasets → dataset_number_in old.datasets name ≡ Some id → dataset_number_in new.datasets name ≡ Some id
number_stays old new name id grows apart is =
    let f = found old.datasets name id is in
    subst (λ n. dataset_number_in new.datasets n ≡ Some id) f.named (apart id f.dataset (grows.datasets id f.dataset f.at))

pub member_stays : (old new : State) (base : List ℕ) (s : SourceValue) (id : ℕ) → Grows old new → IsApart new.datasets → IsMember old base s id → IsMember new base s id
member_stays old new base s id grows apart t = record {
  name = t.name;
  dataset = t.dataset;
  link = t.link;
  resolves = t.resolves;
  number = number_stays old new t.name id grows apart t.number;
  at = grows.datasets id t.dataset t.at;
  whole = grows.links id t.link t.whole;
  band = t.band;
  takes = t.takes;
}

-- lists that go together

pub each_more : {A B : Type 0} (R : A → B → Type 0) (xs : List A) (ys : List B) (x : A) (y : B) → Each R xs ys → R x y → Each R (xs ++ x ∷ []) (ys ++ y ∷ [])
each_more R [] [] x y all more = (more, tt)
each_more R [] (b ∷ bs) x y all more = absurd all
each_more R (a ∷ xs) [] x y all more = absurd all
each_more R (a ∷ xs) (b ∷ bs) x y all more = (all.0, each_more R xs bs x y all.1 more)

pub each_append : {A B : Type 0} (R : A → B → Type 0) (xs zs : List A) (ys ws : List B) → Each R xs ys → Each R zs ws → Each R (xs ++ zs) (ys ++ ws)
each_append R [] zs [] ws all more = more
each_append R [] zs (b ∷ bs) ws all more = absurd all
each_append R (a ∷ xs) zs [] ws all more = absurd all
each_append R (a ∷ xs) zs (b ∷ bs) ws all more = (all.0, each_append R xs zs bs ws all.1 more)

pub each_map : {A B : Type 0} (P Q : A → B → Type 0) (xs : List A) (ys : List B) → ((x : A) (y : B) → P x y → Q x y) → Each P xs ys → Each Q xs ys
each_map P Q [] [] h all = tt
each_map P Q [] (b ∷ bs) h all = absurd all
each_map P Q (a ∷ xs) [] h all = absurd all
each_map P Q (a ∷ xs) (b ∷ bs) h all = (h a b all.0, each_map P Q xs bs h all.1)

-- the rows of all bands, one behind the other
pub flat_rows : (st : State) (base : List ℕ) (bands : List BandValue) (rows : List (List ℕ)) → AreMemberRows st base bands rows → Each (IsMember st base) (flat_map (λ (b : BandValue). b.sources) bands) (flattened rows)
flat_rows st base [] [] all = tt
flat_rows st base [] (r ∷ rows) all = absurd all
flat_rows st base (b ∷ bands) [] all = absurd all
flat_rows st base (b ∷ bands) (r ∷ rows) all = each_append (IsMember st base) b.sources (flat_map (λ (b : BandValue). b.sources) bands) r (flattened rows) all.0 (flat_rows st base bands rows all.1)

-- heights stay

pub height_whole : (st : State) (id : ℕ) (l : Link) → slice_get st.links id ≡ Some (Some l) → height_at st.links id ≡ l.height
height_whole st id l whole = ap height_in whole

pub most_stays : (old new : State) (base : List ℕ) (ss : List SourceValue) (ids : List ℕ) → Grows old new → Each (IsMember old base) ss ids → most new.links ids ≡ most old.links ids
most_stays old new base [] [] grows all = refl
most_stays old new base [] (id ∷ ids) grows all = absurd all
most_stays old new base (s ∷ ss) [] grows all = absurd all
most_stays old new base (s ∷ ss) (id ∷ ids) grows all =
    let t = all.0 in
    let here : height_at new.links id ≡ height_at old.links id = ap height_in (grows.links id t.link t.whole) ∙ sym (ap height_in t.whole) in
    ap (λ h. max h (most new.links ids)) here ∙ ap (λ h. max (height_at old.links id) h) (most_stays old new base ss ids grows all.1)

pub rows_stay : (old new : State) (base : List ℕ) (bands : List BandValue) (rows : List (List ℕ)) → Grows old new → IsApart new.datasets → AreMemberRows old base bands rows → AreMemberRows new base bands rows
rows_stay old new base bands rows grows apart all =
    each_map (λ (b : BandValue) (row : List ℕ). Each (IsMember old base) b.sources row) (λ (b : BandValue) (row : List ℕ). Each (IsMember new base) b.sources row) bands rows
    (λ b row. each_map (IsMember old base) (IsMember new base) b.sources row (λ s id. member_stays old new base s id grows apart)) all
