-- What a walk keeps, as it goes on.
use Rattle.std.proofs.Common.{◌≡◌, ◌∙◌, ◌⊎◌, inl, inr, ◌+◌, ◌<◌, ap, sym, subst, refl, cond, ℕ, zero, suc, List, [], ◌∷◌, ◌++◌, length, take, Bool, true, false, Option, Some, None, arith, true≢false, bytes_eq, length-append}
use Rattle.std.specs.Prelude.{slice_get, set, option_and_then, ◌||◌}
use Rattle.std.proofs.lemmas.List.{length-set}
use Rattle.std.proofs.lemmas.List.Elements.{All-append, All-cons, All-nil}
use Rattle.std.proofs.lemmas.List.Sums.{sum_by-append}
use Rattle.std.proofs.lemmas.Option.{slice_get_within}
use Rattle.std.proofs.lemmas.Slice.Eq.{bytes_eq-Decides}
use Rattle.lists_and_answers.specs.Lists.{flattened, is_among}
use Rattle.catalog.specs.declared.driver.Content.{Content}
use Rattle.catalog.specs.declared.driver.Content.TheVariants.{File, Mosaic}
use Rattle.catalog.specs.declared.links.Link.{Link}
use Rattle.catalog.specs.Drivers.{Dataset}
use Rattle.catalog.specs.Walk.{dataset_number_in, sources_in, sources_among, IsDataset, IsApart}
use Rattle.catalog.specs.Linked.{State, is_waiting, is_open, IsLinkOf, IsLink, IsMet, IsLinked, IsOff, Grows, Goes, IsPath, pushed, met_whole, one_counted}
use Rattle.catalog.proofs.Found.{some_is, found, flat_rows, rows_stay, most_stays}
use Rattle.catalog.proofs.Numbers.{number_kept, number_of_added, number_of_other, apart_more}

none≢some : {T : Type 0} {x : T} → None ≡ Some x → ⊥
none≢some e = cc

-- items of lists

pub front_item : {T : Type 0} (xs ys : List T) (id : ℕ) (x : T) → slice_get xs id ≡ Some x → slice_get (xs ++ ys) id ≡ Some x
front_item [] ys id x is = absurd (none≢some is)
front_item (y ∷ xs) ys zero x is = is
front_item (y ∷ xs) ys (suc id) x is = front_item xs ys id x is

pub last_item : {T : Type 0} (xs : List T) (x : T) → slice_get (xs ++ x ∷ []) (length xs) ≡ Some x
last_item [] x = refl
last_item (y ∷ xs) x = last_item xs x

pub item_there : {T : Type 0} (xs : List T) (id : ℕ) → id < length xs → (x : T) × (slice_get xs id ≡ Some x)
item_there [] id within = absurd (omega arith)
item_there (x ∷ xs) zero within = (x, refl)
item_there (x ∷ xs) (suc id) within = item_there xs id (omega arith)

front_or_last : {T : Type 0} (xs : List T) (x y : T) (id : ℕ) → slice_get (xs ++ x ∷ []) id ≡ Some y → (slice_get xs id ≡ Some y) ⊎ ((y ≡ x) × (id ≡ length xs))
front_or_last [] x y zero is = inr (some_is (sym is), refl)
front_or_last [] x y (suc id) is = absurd (none≢some is)
front_or_last (z ∷ xs) x y zero is = inl is
front_or_last (z ∷ xs) x y (suc id) is = by_place (front_or_last xs x y id is)
  where
    by_place : (slice_get xs id ≡ Some y) ⊎ ((y ≡ x) × (id ≡ length xs)) → (slice_get (z ∷ xs) (suc id) ≡ Some y) ⊎ ((y ≡ x) × (suc id ≡ length (z ∷ xs)))
    by_place (inl h) = inl h
    by_place (inr h) = inr (h.0, ap suc h.1)

pub set_same : {T : Type 0} (xs : List T) (id : ℕ) (x : T) → id < length xs → slice_get (set xs id x) id ≡ Some x
set_same [] id x within = absurd (omega arith)
set_same (y ∷ xs) zero x within = refl
set_same (y ∷ xs) (suc id) x within = set_same xs id x (omega arith)

set_other : {T : Type 0} (xs : List T) (id k : ℕ) (x : T) → (k ≡ id → ⊥) → slice_get (set xs id x) k ≡ slice_get xs k
set_other [] id k x other = refl
set_other (y ∷ xs) zero zero x other = absurd (other refl)
set_other (y ∷ xs) zero (suc k) x other = refl
set_other (y ∷ xs) (suc id) zero x other = refl
set_other (y ∷ xs) (suc id) (suc k) x other = set_other xs id k x (λ e. other (ap suc e))

-- a list whose items stay is the front of what it grew to
pub front_stays : {T : Type 0} (xs ys : List T) → ((id : ℕ) (x : T) → slice_get xs id ≡ Some x → slice_get ys id ≡ Some x) → take (length xs) ys ≡ xs
front_stays [] ys stays = refl
front_stays (x ∷ xs) [] stays = absurd (none≢some (stays 0 x refl))
front_stays (x ∷ xs) (y ∷ ys) stays =
    let same : y ≡ x = some_is (stays 0 x refl) in
    ap (λ z. z ∷ take (length xs) ys) same ∙ ap (λ zs. x ∷ zs) (front_stays xs ys (λ id z is. stays (suc id) z is))

-- growth

pub grows_refl : (st : State) → Grows st st
grows_refl st = record { datasets = λ id d is. is; links = λ id l is. is }

pub grows_trans : (a b c : State) → Grows a b → Grows b c → Grows a c
grows_trans a b c ab bc = record { datasets = λ id d is. bc.datasets id d (ab.datasets id d is); links = λ id l is. bc.links id l (ab.links id l is) }

pub goes_trans : (n m k : ℕ) (a b c : State) → n + m ≡ k → Goes n a b → Goes m b c → Goes k a c
goes_trans n m k a b c sum ab bc =
    let x = ab.counted in
    let y = bc.counted in
    record { linked = bc.linked; same_open = λ name. ab.same_open name ∙ bc.same_open name; counted = omega arith }

pub goes_none : (st : State) → IsLinked st → Goes 0 st st
goes_none st linked = record { linked = linked; same_open = λ name. refl; counted = omega arith }

-- links

link_stays : (old new : State) (d : Dataset) (l : Link) → Grows old new → IsApart new.datasets → IsLink old d l → IsLink new d l
link_stays old new d l grows apart is = record { content = by_content d.content is.content; shallow = is.shallow }
  where
    by_content : (c : Content) → IsLinkOf old d.head.name c l → IsLinkOf new d.head.name c l
    by_content (File h) of = of
    by_content (Mosaic doc) of = record {
      rows = rows_stay old new d.head.name doc.bands l.members grows apart of.rows;
      height = of.height ∙ ap suc (sym (most_stays old new d.head.name _ (flattened l.members) grows (flat_rows old d.head.name doc.bands l.members of.rows)));
    }

-- one source more
pub goes_one : (st : State) → IsLinked st → st.sources < 262144 → Goes 1 st (one_counted st)
goes_one st linked room = record {
  linked = record {
    long = linked.long;
    each = linked.each;
    few = linked.few;
    sources = omega arith;
    apart = linked.apart;
    whole = λ id d l at whole. link_stays st (one_counted st) d l (record { datasets = λ id d is. is; links = λ id l is. is }) linked.apart (linked.whole id d l at whole);
  };
  same_open = λ name. refl;
  counted = omega arith;
}

-- one dataset more

pub grows_pushed : (st : State) (d : Dataset) (x : Option Link) → Grows st (pushed st d x)
grows_pushed st d x = record { datasets = λ id e is. front_item st.datasets (d ∷ []) id e is; links = λ id l is. front_item st.links (x ∷ []) id (Some l) is }

pub linked_pushed : (st : State) (d : Dataset) (x : Option Link) → IsLinked st → length st.datasets < 65536 → dataset_number_in st.datasets d.head.name ≡ None → IsDataset d → ((l : Link) → x ≡ Some l → IsLink (pushed st d x) d l) → IsLinked (pushed st d x)
linked_pushed st d x linked room fresh valid link = record {
  long = omega (arith, length-append st.links (x ∷ []), length-append st.datasets (d ∷ []), linked.long);
  each = All-append IsDataset st.datasets (d ∷ []) linked.each (All-cons IsDataset d [] valid (All-nil IsDataset));
  few = omega (arith, length-append st.datasets (d ∷ []));
  sources = linked.sources;
  apart = apart_more st.datasets d linked.apart fresh;
  whole = λ id e l at whole. by_place id e l (front_or_last st.datasets d e id at) (front_or_last st.links x (Some l) id whole);
}
  where
    by_place : (id : ℕ) (e : Dataset) (l : Link) → (slice_get st.datasets id ≡ Some e) ⊎ ((e ≡ d) × (id ≡ length st.datasets)) → (slice_get st.links id ≡ Some (Some l)) ⊎ ((Some l ≡ x) × (id ≡ length st.links)) → IsLink (pushed st d x) e l
    by_place id e l (inl at) (inl whole) = link_stays st (pushed st d x) e l (grows_pushed st d x) (apart_more st.datasets d linked.apart fresh) (linked.whole id e l at whole)
    by_place id e l (inl at) (inr last) = absurd (omega (arith, slice_get_within st.datasets id e at, linked.long, last.1))
    by_place id e l (inr last) (inl whole) = absurd (omega (arith, slice_get_within st.links id (Some l) whole, linked.long, last.1))
    by_place id e l (inr last) (inr at) = subst (λ (y : Dataset). IsLink (pushed st d x) y l) (sym last.0) (link l (sym at.0))

-- what is open

pub open_known : (st : State) (name : List ℕ) (id : ℕ) (x : Option (Option Link)) → dataset_number_in st.datasets name ≡ Some id → slice_get st.links id ≡ x → is_open st name ≡ is_waiting x
open_known st name id x is at = ap (λ o. is_waiting (option_and_then (slice_get st.links) o)) is ∙ ap is_waiting at

pub open_unknown : (st : State) (name : List ℕ) → dataset_number_in st.datasets name ≡ None → is_open st name ≡ false
open_unknown st name none = ap (λ o. is_waiting (option_and_then (slice_get st.links) o)) none

-- a dataset that was met whole isn't open
pub met_shut : (st : State) → IsLinked st → (id : ℕ) (d : Dataset) (l : Link) → IsMet st id d l → is_open st d.head.name ≡ false
met_shut st linked id d l met = open_known st d.head.name id (Some (Some l)) (linked.apart id d met.at) met.whole

-- so it stands off the path
pub off_path : (st : State) → IsLinked st → (path : List (List ℕ)) → IsPath st path → (height : ℕ) → IsOff st path height
off_path st linked path is height id d l at whole low = is d.head.name ∙ met_shut st linked id d l (record { at = at; whole = whole })

open_pushed : (st : State) (d : Dataset) (x : Option Link) → IsLinked st → dataset_number_in st.datasets d.head.name ≡ None → (name : List ℕ) → is_open (pushed st d x) name ≡ cond (bytes_eq d.head.name name) (is_waiting (Some x)) (is_open st name)
open_pushed st d x linked fresh name = by_number (dataset_number_in st.datasets name) refl (bytes_eq d.head.name name) refl
  where
    new : dataset_number_in st.datasets name ≡ None → (b : Bool) → bytes_eq d.head.name name ≡ b → is_open (pushed st d x) name ≡ cond b (is_waiting (Some x)) (is_open st name)
    new none true e =
        let place : slice_get (st.links ++ x ∷ []) (length st.datasets) ≡ Some x = ap (slice_get (st.links ++ x ∷ [])) (sym linked.long) ∙ last_item st.links x in
        open_known (pushed st d x) name (length st.datasets) (Some x) (number_of_added st.datasets d name none ((bytes_eq-Decides d.head.name name).0 e)) place
    new none false e = open_unknown (pushed st d x) name (number_of_other 0 st.datasets d name none e) ∙ sym (open_unknown st name none)

    by_number : (o : Option ℕ) → dataset_number_in st.datasets name ≡ o → (b : Bool) → bytes_eq d.head.name name ≡ b → is_open (pushed st d x) name ≡ cond b (is_waiting (Some x)) (is_open st name)
    by_number None none b e = new none b e
    by_number (Some id) is true e = absurd (none≢some (sym fresh ∙ ap (dataset_number_in st.datasets) ((bytes_eq-Decides d.head.name name).0 e) ∙ is))
    by_number (Some id) is false e =
        let f = found st.datasets name id is in
        let there = item_there st.links id (omega (arith, slice_get_within st.datasets id f.dataset f.at, linked.long)) in
        open_known (pushed st d x) name id (Some there.0) (number_kept 0 st.datasets d name id is) (front_item st.links (x ∷ []) id there.0 there.1)
        ∙ sym (open_known st name id (Some there.0) is there.1)

-- a mosaic that is met comes onto the path
pub path_pushed : (st : State) (d : Dataset) (path : List (List ℕ)) → IsLinked st → dataset_number_in st.datasets d.head.name ≡ None → IsPath st path → IsPath (pushed st d None) (d.head.name ∷ path)
path_pushed st d path linked fresh is name = by_test (bytes_eq d.head.name name) ∙ sym (open_pushed st d None linked fresh name)
  where
    by_test : (b : Bool) → (b || is_among path name) ≡ cond b true (is_open st name)
    by_test true = refl
    by_test false = is name

-- a dataset is met whole

pub grows_closed : (st : State) (id : ℕ) (l : Link) → slice_get st.links id ≡ Some None → Grows st (met_whole st id l)
grows_closed st id l waits = record { datasets = λ k d is. is; links = λ k m is. set_other st.links id k (Some l) (λ e. none_here (sym (ap (slice_get st.links) e ∙ waits) ∙ is)) ∙ is }
  where
    none_here : {m : Link} → Some None ≡ Some (Some m) → ⊥
    none_here e = none≢some (some_is e)

pub linked_closed : (st : State) (id : ℕ) (d : Dataset) (l : Link) → IsLinked st → slice_get st.datasets id ≡ Some d → slice_get st.links id ≡ Some None → IsLink st d l → IsLinked (met_whole st id l)
linked_closed st id d l linked at waits link = record {
  long = length-set st.links id (Some l) ∙ linked.long;
  each = linked.each;
  few = linked.few;
  sources = linked.sources;
  apart = linked.apart;
  whole = λ k e m at' whole. by_place k e m at' whole (eq_or_not k id);
}
  where
    stays : (e : Dataset) (m : Link) → IsLink st e m → IsLink (met_whole st id l) e m
    stays e m is = link_stays st (met_whole st id l) e m (grows_closed st id l waits) linked.apart is

    eq_or_not : (a b : ℕ) → (a ≡ b) ⊎ (a ≡ b → ⊥)
    eq_or_not a b = grind arith

    by_place : (k : ℕ) (e : Dataset) (m : Link) → slice_get st.datasets k ≡ Some e → slice_get (set st.links id (Some l)) k ≡ Some (Some m) → (k ≡ id) ⊎ (k ≡ id → ⊥) → IsLink (met_whole st id l) e m
    by_place k e m at' whole (inl same) =
        let here : slice_get (set st.links id (Some l)) id ≡ Some (Some l) = set_same st.links id (Some l) (slice_get_within st.links id None waits) in
        let links : l ≡ m = some_is (some_is (sym here ∙ ap (slice_get (set st.links id (Some l))) (sym same) ∙ whole)) in
        let sets : d ≡ e = some_is (sym at ∙ ap (slice_get st.datasets) (sym same) ∙ at') in
        subst (λ (x : Dataset). IsLink (met_whole st id l) x m) sets (subst (λ (x : Link). IsLink (met_whole st id l) d x) links (stays d l link))
    by_place k e m at' whole (inr other) = stays e m (linked.whole k e m at' (sym (set_other st.links id k (Some l) other) ∙ whole))

open_closed : (st : State) (id : ℕ) (d : Dataset) (l : Link) → IsLinked st → slice_get st.datasets id ≡ Some d → slice_get st.links id ≡ Some None → (name : List ℕ) → is_open (met_whole st id l) name ≡ cond (bytes_eq d.head.name name) false (is_open st name)
open_closed st id d l linked at waits name = by_test (bytes_eq d.head.name name) refl
  where
    other : (b : Bool) → bytes_eq d.head.name name ≡ false → (o : Option ℕ) → dataset_number_in st.datasets name ≡ o → is_open (met_whole st id l) name ≡ is_open st name
    other b e None none = open_unknown (met_whole st id l) name none ∙ sym (open_unknown st name none)
    other b e (Some k) is =
        let f = found st.datasets name k is in
        let apart : k ≡ id → ⊥ = λ same. true≢false (sym ((bytes_eq-Decides d.head.name name).1 (ap (λ (x : Dataset). x.head.name) (some_is (sym at ∙ ap (slice_get st.datasets) (sym same) ∙ f.at)) ∙ f.named)) ∙ e) in
        open_known (met_whole st id l) name k (slice_get st.links k) is (set_other st.links id k (Some l) apart) ∙ sym (open_known st name k (slice_get st.links k) is refl)

    by_test : (b : Bool) → bytes_eq d.head.name name ≡ b → is_open (met_whole st id l) name ≡ cond b false (is_open st name)
    by_test true e = open_known (met_whole st id l) name id (Some (Some l)) (sym (ap (dataset_number_in st.datasets) ((bytes_eq-Decides d.head.name name).0 e)) ∙ linked.apart id d at) (set_same st.links id (Some l) (slice_get_within st.links id None waits))
    by_test false e = other false e (dataset_number_in st.datasets name) refl

among_pushed : (st : State) (d : Dataset) (x : Option Link) → sources_among (pushed st d x).datasets ≡ sources_among st.datasets + length (sources_in d.content)
among_pushed st d x = let e = sum_by-append (λ (d : Dataset). length (sources_in d.content)) st.datasets (d ∷ []) in omega arith

-- a file is met: it is met whole at once
pub goes_file : (st : State) (d : Dataset) (l : Link) → IsLinked st → IsLinked (pushed st d (Some l)) → dataset_number_in st.datasets d.head.name ≡ None → sources_in d.content ≡ [] → Goes 0 st (pushed st d (Some l))
goes_file st d l linked after fresh none = record {
  linked = after;
  same_open = λ name. by_test name (bytes_eq d.head.name name) refl ∙ sym (open_pushed st d (Some l) linked fresh name);
  counted = omega (arith, among_pushed st d (Some l), ap length none);
}
  where
    by_test : (name : List ℕ) (b : Bool) → bytes_eq d.head.name name ≡ b → is_open st name ≡ cond b false (is_open st name)
    by_test name true e = open_unknown st name (sym (ap (dataset_number_in st.datasets) ((bytes_eq-Decides d.head.name name).0 e)) ∙ fresh)
    by_test name false e = refl

-- a mosaic is met: it is open while the walk goes through its sources, and then it is met whole
pub goes_mosaic : (st after : State) (d : Dataset) (id : ℕ) (l : Link) → IsLinked st → IsLinked (pushed st d None) → dataset_number_in st.datasets d.head.name ≡ None → Goes (length (sources_in d.content)) (pushed st d None) after → slice_get after.datasets id ≡ Some d → slice_get after.links id ≡ Some None → IsLink after d l → Goes 0 st (met_whole after id l)
goes_mosaic st after d id l linked first fresh goes at waits link = record {
  linked = linked_closed after id d l goes.linked at waits link;
  same_open = λ name. by_test name (bytes_eq d.head.name name) refl ∙ sym (open_closed after id d l goes.linked at waits name);
  counted = (let c = goes.counted in omega (arith, among_pushed st d None));
}
  where
    by_test : (name : List ℕ) (b : Bool) → bytes_eq d.head.name name ≡ b → is_open st name ≡ cond b false (is_open after name)
    by_test name true e = open_unknown st name (sym (ap (dataset_number_in st.datasets) ((bytes_eq-Decides d.head.name name).0 e)) ∙ fresh)
    by_test name false e = sym (ap (λ b. cond b true (is_open st name)) e) ∙ sym (open_pushed st d None linked fresh name) ∙ goes.same_open name

-- the mosaic stays open while the walk goes through its sources
pub stays_open : (st after : State) (d : Dataset) (n : ℕ) → IsLinked st → dataset_number_in st.datasets d.head.name ≡ None → IsLinked (pushed st d None) → Grows (pushed st d None) after → Goes n (pushed st d None) after → slice_get after.links (length st.datasets) ≡ Some None
stays_open st after d n linked fresh first grows goes =
    let at : slice_get after.datasets (length st.datasets) ≡ Some d = grows.datasets (length st.datasets) d (last_item st.datasets d) in
    let there = item_there after.links (length st.datasets) (omega (arith, slice_get_within after.datasets (length st.datasets) d at, goes.linked.long)) in
    let waits : is_open after d.head.name ≡ true = sym (goes.same_open d.head.name) ∙ open_pushed st d None linked fresh d.head.name ∙ ap (λ b. cond b true (is_open st d.head.name)) ((bytes_eq-Decides d.head.name d.head.name).1 refl) in
    let known : is_open after d.head.name ≡ is_waiting (Some there.0) = open_known after d.head.name (length st.datasets) (Some there.0) (goes.linked.apart (length st.datasets) d at) there.1 in
    there.1 ∙ ap Some (by_link there.0 (sym known ∙ waits))
  where
    by_link : (x : Option Link) → is_waiting (Some x) ≡ true → x ≡ None
    by_link None is = refl
    by_link (Some l) is = absurd (true≢false (sym is))

pub pushed_at : (st : State) (d : Dataset) (x : Option Link) → slice_get (pushed st d x).datasets (length st.datasets) ≡ Some d
pushed_at st d x = last_item st.datasets d
