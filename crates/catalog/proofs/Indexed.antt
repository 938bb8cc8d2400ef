-- The numbers of datasets, kept under their names.
use Rattle.std.proofs.Common.{◌≡◌, ◌∙◌, ap, sym, subst, refl, cond, ◌+◌, ◌≤◌, ℕ, zero, suc, List, [], ◌∷◌, ◌++◌, length, take, Bool, true, false, Option, Some, None, String, BTreeMap, string_bytes, bytes_eq, unwrap_or, arith}
use Rattle.std.specs.Prelude.{nat_lt, slice_get}
use Rattle.std.specs.List.{filter}
use Rattle.std.specs.List.Sorted.{IsStrictlySortedBy}
use Rattle.std.specs.Option.{option_or}
use Rattle.std.specs.Map.{lookup, keys_of}
use Rattle.std.specs.String.{string_cmp, string_cmp_total}
use Rattle.std.specs.BTreeMap.{get, get_by_text, is_at, IsEmpty, IsOrdered, Updates}
use Rattle.std.proofs.lemmas.Bool.Decides.{nat_tests}
use Rattle.std.proofs.lemmas.Cmp.{eq_by_cmp_equiv}
use Rattle.std.proofs.lemmas.Map.{NonePasses, lookup-none, none_passes_from_lookup}
use Rattle.std.proofs.lemmas.Map.Entries.{option_filter, place_from_lookup, lookup-filter-values}
use Rattle.std.proofs.lemmas.Map.Keys.{IsDistinct-from_sorted}
use Rattle.std.proofs.lemmas.Map.Text.{text_cmp, is_eq-slice_cmp, btree_map_updates_text}
use Rattle.std.proofs.lemmas.Slice.Eq.{bytes_eq-Decides}
use Rattle.catalog.specs.declared.links.Link.{Link}
use Rattle.catalog.specs.Drivers.{Dataset}
use Rattle.catalog.specs.Walk.{number_from, dataset_number_in}
use Rattle.catalog.specs.Linked.{State, Grows}
use Rattle.catalog.proofs.States.{front_item}

-- each dataset's number is kept under its name
abbrev pub HasNumbers : {Y : Type 0} → List Dataset → BTreeMap (String Y) ℕ → Type 0
HasNumbers ds m = (name : List ℕ) → get_by_text m name ≡ dataset_number_in ds name

pub numbers_none : {Y : Type 0} (ds : List Dataset) (m : BTreeMap (String Y) ℕ) → ds ≡ [] → IsEmpty m → HasNumbers ds m
numbers_none ds m none empty name = ap (lookup (is_at (text_cmp name))) empty ∙ sym (ap (λ cat. dataset_number_in cat name) none)

-- a number is kept under a name, unless the name has one

by_text : (o : Option ℕ) (n : ℕ) (b : Bool) (v : ℕ) → (b ≡ true → v ≡ unwrap_or o n) → cond b (Some v) o ≡ option_or o (cond b (Some n) None)
by_text None n true v is = ap Some (is refl)
by_text (Some k) n true v is = ap Some (is refl)
by_text None n false v is = refl
by_text (Some k) n false v is = refl

pub kept_text : {Y : Type 0} (m given : BTreeMap (String Y) ℕ) (key : String Y) (name : List ℕ) (n v : ℕ) → string_bytes key ≡ name → v ≡ unwrap_or (get string_cmp m key) n → Updates string_cmp m given key (Some v)
    → (entries : List (String Y × ℕ)) → entries ≡ given.entries → (text : List ℕ) → lookup (is_at (text_cmp text)) entries ≡ option_or (get_by_text m text) (cond (bytes_eq name text) (Some n) None)
kept_text m given key name n v is value updates entries last text =
    ap (lookup (is_at (text_cmp text))) last
    ∙ btree_map_updates_text (string_bytes key) m given (Some v) updates text
    ∙ by_text (get_by_text m text) n (bytes_eq (string_bytes key) text) v (λ same. value ∙ ap (λ t. unwrap_or (get_by_text m t) n) ((bytes_eq-Decides (string_bytes key) text).0 same))
    ∙ ap (λ t. option_or (get_by_text m text) (cond (bytes_eq t text) (Some n) None)) is

-- one dataset more

number_behind : (at : ℕ) (ds : List Dataset) (d : Dataset) (name : List ℕ) → number_from at (ds ++ d ∷ []) name ≡ option_or (number_from at ds name) (cond (bytes_eq d.head.name name) (Some (at + length ds)) None)
number_behind at [] d name = ap (λ n. cond (bytes_eq d.head.name name) (Some n) None) (omega arith)
number_behind at (c ∷ cs) d name = by_name (bytes_eq c.head.name name) (number_behind (suc at) cs d name)
  where
    further : cond (bytes_eq d.head.name name) (Some (suc at + length cs)) None ≡ cond (bytes_eq d.head.name name) (Some (at + length (c ∷ cs))) None
    further = ap (λ n. cond (bytes_eq d.head.name name) (Some n) None) (omega arith)

    by_name : (b : Bool) → number_from (suc at) (cs ++ d ∷ []) name ≡ option_or (number_from (suc at) cs name) (cond (bytes_eq d.head.name name) (Some (suc at + length cs)) None)
        → cond b (Some at) (number_from (suc at) (cs ++ d ∷ []) name) ≡ option_or (cond b (Some at) (number_from (suc at) cs name)) (cond (bytes_eq d.head.name name) (Some (at + length (c ∷ cs))) None)
    by_name true rest = refl
    by_name false rest = rest ∙ ap (option_or (number_from (suc at) cs name)) further

pub numbers_pushed : {Y : Type 0} (ds more : List Dataset) (d : Dataset) (m new : BTreeMap (String Y) ℕ) (n : ℕ) → HasNumbers ds m → more ≡ ds ++ d ∷ []
    → ((text : List ℕ) → get_by_text new text ≡ option_or (get_by_text m text) (cond (bytes_eq d.head.name text) (Some n) None)) → n ≡ length ds → HasNumbers more new
numbers_pushed ds more d m new n has is kept counted name =
    let last : n ≡ 0 + length ds = omega arith in
    kept name
    ∙ ap (λ o. option_or o (cond (bytes_eq d.head.name name) (Some n) None)) (has name)
    ∙ ap (λ k. option_or (dataset_number_in ds name) (cond (bytes_eq d.head.name name) (Some k) None)) last
    ∙ sym (number_behind 0 ds d name)
    ∙ sym (ap (λ cat. dataset_number_in cat name) is)

-- the numbers below a count

abbrev below : ℕ → Option ℕ → Option ℕ
below count o = option_filter (λ n. nat_lt n count) o

none_below : (count at : ℕ) (ds : List Dataset) (name : List ℕ) → count ≤ at → below count (number_from at ds name) ≡ None
none_below count at [] name high = refl
none_below count at (c ∷ cs) name high = by_name (bytes_eq c.head.name name) (none_below count (suc at) cs name (omega arith))
  where
    not_here : nat_lt at count ≡ false
    not_here = grind (arith, nat_tests)

    by_name : (b : Bool) → below count (number_from (suc at) cs name) ≡ None → below count (cond b (Some at) (number_from (suc at) cs name)) ≡ None
    by_name true rest = ap (λ b. cond b (Some at) None) not_here
    by_name false rest = rest

number_front : (count at n : ℕ) (ds : List Dataset) (name : List ℕ) → count ≡ at + n → number_from at (take n ds) name ≡ below count (number_from at ds name)
number_front count at zero ds name is = sym (none_below count at ds name (omega arith))
number_front count at (suc n) [] name is = refl
number_front count at (suc n) (c ∷ cs) name is = by_name (bytes_eq c.head.name name) (number_front count (suc at) n cs name (omega arith))
  where
    here : below count (Some at) ≡ Some at
    here = let test : nat_lt at count ≡ true = grind (arith, nat_tests) in ap (λ b. cond b (Some at) None) test

    by_name : (b : Bool) → number_from (suc at) (take n cs) name ≡ below count (number_from (suc at) cs name) → cond b (Some at) (number_from (suc at) (take n cs) name) ≡ below count (cond b (Some at) (number_from (suc at) cs name))
    by_name true rest = sym here
    by_name false rest = rest

-- a look-up among the entries with such a value

none_left : {K X : Type 0} (test : K → Bool) (p : K × X → Bool) (es : List (K × X)) → NonePasses test es → NonePasses test (filter p es)
none_left test p [] none = none
none_left test p (e ∷ es) none = by_test (p e) (none_left test p es none.1)
  where
    by_test : (b : Bool) → NonePasses test (filter p es) → NonePasses test (cond b (e ∷ filter p es) (filter p es))
    by_test true rest = (none.0, rest)
    by_test false rest = rest

left_text : {Y : Type 0} (p : ℕ → Bool) (text : List ℕ) (es : List (String Y × ℕ)) (o : Option ℕ) → IsStrictlySortedBy string_cmp (keys_of es) → lookup (is_at (text_cmp text)) es ≡ o → lookup (is_at (text_cmp text)) (filter (λ e. p e.1) es) ≡ option_filter p (lookup (is_at (text_cmp text)) es)
left_text p text es None sorted is = lookup-none (is_at (text_cmp text)) (filter (λ e. p e.1) es) (none_left (is_at (text_cmp text)) (λ e. p e.1) es (none_passes_from_lookup (is_at (text_cmp text)) es is)) ∙ sym (ap (option_filter p) is)
left_text p text es (Some v) sorted is =
    let place = place_from_lookup (is_at (text_cmp text)) es v is in
    let same : string_bytes place.1 ≡ text = sym ((bytes_eq-Decides text (string_bytes place.1)).0 (sym (is_eq-slice_cmp text (string_bytes place.1)) ∙ place.3)) in
    subst (λ t. lookup (is_at (text_cmp t)) (filter (λ e. p e.1) es) ≡ option_filter p (lookup (is_at (text_cmp t)) es)) same
    (lookup-filter-values (eq_by_cmp_equiv string_cmp_total) p place.1 es (IsDistinct-from_sorted string_cmp (keys_of es) sorted))

pub numbers_cut : {Y : Type 0} (ds front : List Dataset) (m new : BTreeMap (String Y) ℕ) (count : ℕ) → HasNumbers ds m → front ≡ take count ds → IsOrdered string_cmp m → new.entries ≡ filter (λ e. nat_lt e.1 count) m.entries → HasNumbers front new
numbers_cut ds front m new count has is sorted left name =
    ap (lookup (is_at (text_cmp name))) left
    ∙ left_text (λ n. nat_lt n count) name m.entries (get_by_text m name) sorted refl
    ∙ ap (option_filter (λ n. nat_lt n count)) (has name)
    ∙ sym (number_front count 0 count ds name (omega arith))
    ∙ sym (ap (λ cat. dataset_number_in cat name) is)

-- what was met stays

abbrev pub state_of : List Dataset → List (Option Link) → ℕ → State
state_of ds links sources = record { datasets = ds; links = links; sources = sources }

pub grows_by : (old new : State) (ds more : List Dataset) (links further : List (Option Link)) (sources : ℕ) → state_of ds links sources ≡ old → new.datasets ≡ ds ++ more → new.links ≡ links ++ further → Grows old new
grows_by old new ds more links further sources same datasets_are links_are = record {
  datasets = λ id d at. ap (λ (xs : List Dataset). slice_get xs id) datasets_are ∙ front_item ds more id d (ap (λ (st : State). slice_get st.datasets id) same ∙ at);
  links = λ id l at. ap (λ (xs : List (Option Link)). slice_get xs id) links_are ∙ front_item links further id (Some l) (ap (λ (st : State). slice_get st.links id) same ∙ at);
}
