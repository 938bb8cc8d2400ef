-- The files of a mosaic, by one source more.
use Rattle.std.proofs.Common.{◌≡◌, ◌∙◌, ap, ap₂, sym, subst, refl, true, false, cond, not, suc, ◌<◌, ◌≤◌, ◌+◌, ℕ, Bool, List, [], ◌∷◌, ◌++◌, append_assoc, length, take, drop, get_or, drop-cons, add-one, Option, Some, None, Result, Ok, Err, bytes_eq, arith}
use Rattle.std.specs.Prelude.{flat_map, nat_lt, ok_or}
use Rattle.std.specs.List.{filter_map, cons_option}
use Rattle.std.specs.Result.{IsErr, IsErrAnd}
use Rattle.std.specs.BTreeSet.{contains_text}
use Rattle.std.proofs.lemmas.Bool.Decides.{nat_tests}
use Rattle.std.proofs.lemmas.List.{append-nil, take_more}
use Rattle.std.proofs.lemmas.List.Elements.{filter_map-append}
use Rattle.std.proofs.lemmas.Grind.{flat_map-append}
use Rattle.std.proofs.lemmas.Slice.Eq.{bytes_eq-Decides}
use Rattle.lists_and_answers.specs.Answers.{◌>>=◌}
use Rattle.lists_and_answers.specs.Lists.{is_among}
use Rattle.outside.specs.Paths.{normal}
use Rattle.outside.specs.Causes.{HasCause}
use Rattle.vrt_profile.specs.Values.{BandValue, SourceValue}
use Rattle.vrt_profile.specs.Resolve.{resolved_text}
use Rattle.catalog.specs.declared.faults.LimitKind.TheVariants as limits
use Rattle.catalog.specs.declared.faults.WalkFault.{WalkFault}
use Rattle.catalog.specs.declared.faults.WalkFault.TheVariants.{Limit, NotRecognized, Malformed, FolderFault}
use Rattle.catalog.specs.declared.faults.Bad.{Bad}
use Rattle.catalog.specs.declared.kind.Kind.{Kind}
use Rattle.catalog.specs.declared.driver.Content.{Content}
use Rattle.catalog.specs.declared.driver.Content.TheVariants.{File, Mosaic}
use Rattle.catalog.specs.declared.mosaic_head.Listing.{Listing}
use Rattle.catalog.specs.Mosaics.{source_name, distinct, sources_of}
use Rattle.catalog.specs.Listed.{HasListed}
use Rattle.catalog.specs.Heads.{kind_in, resolved, all_resolved, names_within, IsOfHead, RefusesUnknown, OwnsFaults}
use Rattle.catalog.proofs.Mosaics.{distinct_with, among_with}

-- the files

files_with : (own x : List ℕ) (ds : List (List ℕ)) (among : Bool) → cond (not among) ((own ∷ ds) ++ x ∷ []) (own ∷ ds) ≡ own ∷ cond among ds (ds ++ x ∷ [])
files_with own x ds true = refl
files_with own x ds false = refl

-- a name that is among them already is no new one
known : (ds : List (List ℕ)) (x k : List ℕ) (same : Bool) → bytes_eq x k ≡ same → is_among ds x ≡ true → cond same true (is_among ds k) ≡ is_among ds k
known ds x k true e among = sym (ap (is_among ds) (sym ((bytes_eq-Decides x k).0 e)) ∙ among)
known ds x k false e among = refl

seen_with : (ds : List (List ℕ)) (x k : List ℕ) (among : Bool) → is_among ds x ≡ among → cond (bytes_eq x k) true (is_among ds k) ≡ is_among (cond among ds (ds ++ x ∷ [])) k
seen_with ds x k true e = known ds x k (bytes_eq x k) refl e
seen_with ds x k false e = sym (among_with ds x k)

-- one name more
pub listed_more : (own : List ℕ) (names : List (List ℕ)) (old new : Listing) (x : List ℕ) (added : Bool) → added ≡ not (contains_text old.seen x) → new.files ≡ cond added (old.files ++ x ∷ []) old.files
    → ((k : List ℕ) → contains_text new.seen k ≡ cond (bytes_eq x k) true (contains_text old.seen k)) → HasListed own names old → HasListed own (names ++ x ∷ []) new
listed_more own names old new x added e files seen listed =
    let test : added ≡ not (is_among (distinct names) x) = e ∙ ap not (listed.seen x) in
    record {
      files = files ∙ ap₂ (λ (b : Bool) (l : List (List ℕ)). cond b (l ++ x ∷ []) l) test listed.files ∙ files_with own x (distinct names) (is_among (distinct names) x) ∙ ap (λ l. own ∷ l) (sym (distinct_with names x));
      seen = λ k. seen k ∙ ap (cond (bytes_eq x k) true) (listed.seen k) ∙ seen_with (distinct names) x k (is_among (distinct names) x) refl ∙ ap (λ l. is_among l k) (sym (distinct_with names x));
    }

-- the same by a text of the name
pub listed_text : (own : List ℕ) (names : List (List ℕ)) (old new : Listing) (t x : List ℕ) (added : Bool) → t ≡ x → added ≡ not (contains_text old.seen t) → new.files ≡ cond added (old.files ++ x ∷ []) old.files
    → ((k : List ℕ) → contains_text new.seen k ≡ cond (bytes_eq t k) true (contains_text old.seen k)) → HasListed own names old → HasListed own (names ++ x ∷ []) new
listed_text own names old new t x added same e files seen listed =
    subst (λ (y : List ℕ). HasListed own (names ++ y ∷ []) new) same (listed_more own names old new t added e (subst (λ (y : List ℕ). new.files ≡ cond added (old.files ++ y ∷ []) old.files) (sym same) files) seen listed)

-- the sources of a band, and the bands, one by one

pub next_item : {X : Type 0} (xs : List X) (i : ℕ) (x : X) → i < length xs → x ≡ get_or xs i x → take (i + 1) xs ≡ take i xs ++ x ∷ []
next_item xs i x below is = take_more xs i x below ∙ ap (λ y. take i xs ++ y ∷ []) (sym is)

pub named_behind : (base : List ℕ) (ss : List SourceValue) (i : ℕ) (s : SourceValue) → i < length ss → s ≡ get_or ss i s → filter_map (source_name base) (take i ss) ++ filter_map (source_name base) (s ∷ []) ≡ filter_map (source_name base) (take (i + 1) ss)
named_behind base ss i s below is = sym (filter_map-append (source_name base) (take i ss) (s ∷ [])) ∙ ap (filter_map (source_name base)) (sym (next_item ss i s below is))

-- a source that has a name
pub named_next : (base : List ℕ) (names : List (List ℕ)) (ss : List SourceValue) (i : ℕ) (s : SourceValue) (x : List ℕ) → i < length ss → s ≡ get_or ss i s → source_name base s ≡ Some x
    → (names ++ filter_map (source_name base) (take i ss)) ++ x ∷ [] ≡ names ++ filter_map (source_name base) (take (i + 1) ss)
named_next base names ss i s x below is e =
    append_assoc names (filter_map (source_name base) (take i ss)) (x ∷ [])
    ∙ ap (λ l. names ++ l) (ap (λ o. filter_map (source_name base) (take i ss) ++ cons_option o []) (sym e) ∙ named_behind base ss i s below is)

-- a source that has none
pub unnamed_next : (base : List ℕ) (names : List (List ℕ)) (ss : List SourceValue) (i : ℕ) (s : SourceValue) → i < length ss → s ≡ get_or ss i s → source_name base s ≡ None
    → names ++ filter_map (source_name base) (take i ss) ≡ names ++ filter_map (source_name base) (take (i + 1) ss)
unnamed_next base names ss i s below is e =
    ap (λ l. names ++ l) (sym (append-nil (filter_map (source_name base) (take i ss))) ∙ ap (λ o. filter_map (source_name base) (take i ss) ++ cons_option o []) (sym e) ∙ named_behind base ss i s below is)

band_behind : (base : List ℕ) (bs : List BandValue) (i : ℕ) (b : BandValue) → i < length bs → b ≡ get_or bs i b
    → filter_map (source_name base) (flat_map (λ (c : BandValue). c.sources) (take i bs)) ++ filter_map (source_name base) b.sources ≡ filter_map (source_name base) (flat_map (λ (c : BandValue). c.sources) (take (i + 1) bs))
band_behind base bs i b below is =
    let sources = λ (c : BandValue). c.sources in
    sym (filter_map-append (source_name base) (flat_map sources (take i bs)) b.sources)
    ∙ ap (filter_map (source_name base)) (ap (λ l. flat_map sources (take i bs) ++ l) (sym (append-nil b.sources)) ∙ sym (flat_map-append sources (take i bs) (b ∷ [])) ∙ ap (flat_map sources) (sym (next_item bs i b below is)))

-- the names of the sources of one band more
pub band_next : (base : List ℕ) (bs items : List BandValue) (i : ℕ) (b : BandValue) (ss : List SourceValue) → items ≡ bs → ss ≡ b.sources → i < length items → b ≡ get_or items i b
    → filter_map (source_name base) (flat_map (λ (c : BandValue). c.sources) (take i bs)) ++ filter_map (source_name base) ss ≡ filter_map (source_name base) (flat_map (λ (c : BandValue). c.sources) (take (i + 1) bs))
band_next base bs items i b ss same of_band below is =
    let names = λ (l : List BandValue). filter_map (source_name base) (flat_map (λ (c : BandValue). c.sources) l) in
    subst (λ (l : List BandValue). names (take i l) ++ filter_map (source_name base) ss ≡ names (take (i + 1) l)) same (ap (λ l. names (take i items) ++ filter_map (source_name base) l) of_band ∙ band_behind base items i b below is)

-- names of sources

-- the name of a text that isn't too long
pub name_within : (base : List ℕ) (s : SourceValue) → length (resolved_text base s) ≤ 4096 → source_name base s ≡ Some (normal (resolved_text base s))
name_within base s few =
    let test : nat_lt 4096 (length (resolved_text base s)) ≡ false = grind (arith, nat_tests) in
    ap (λ b. cond b None (Some (normal (resolved_text base s)))) test

pub no_name : (base : List ℕ) (s : SourceValue) → 4096 < length (resolved_text base s) → source_name base s ≡ None
no_name base s long =
    let test : nat_lt 4096 (length (resolved_text base s)) ≡ true = grind (arith, nat_tests) in
    ap (λ b. cond b None (Some (normal (resolved_text base s)))) test

-- a source that has a name is resolved
pub resolved_within : (base : List ℕ) (s : SourceValue) → length (resolved_text base s) ≤ 4096 → (ss : List SourceValue) → all_resolved base (s ∷ ss) ≡ all_resolved base ss
resolved_within base s few ss = rw (name_within base s few) refl

pub resolved_past : (base : List ℕ) (s : SourceValue) → 4096 < length (resolved_text base s) → (ss : List SourceValue) → all_resolved base (s ∷ ss) ≡ Err (Limit limits.Name (length (resolved_text base s)))
resolved_past base s long ss = rw (no_name base s long) refl

-- some sources, and more
pub resolved_both : (base : List ℕ) (ss ts : List SourceValue) → all_resolved base (ss ++ ts) ≡ (all_resolved base ss >>= λ _. all_resolved base ts)
resolved_both base [] ts = refl
resolved_both base (s ∷ ss) ts = behind (resolved base s) (λ name. resolved_both base ss ts)
  where
    behind : (x : Result (List ℕ) WalkFault) → ((name : List ℕ) → all_resolved base (ss ++ ts) ≡ (all_resolved base ss >>= λ _. all_resolved base ts)) → (x >>= λ name. all_resolved base (ss ++ ts)) ≡ ((x >>= λ name. all_resolved base ss) >>= λ _. all_resolved base ts)
    behind (Ok name) h = h name
    behind (Err e) h = refl

rest_is : {X : Type 0} (xs : List X) (i : ℕ) (x : X) → i < length xs → x ≡ get_or xs i x → drop i xs ≡ x ∷ drop (i + 1) xs
rest_is xs i x below is = rw add-one (drop-cons xs i x below ∙ ap (λ y. y ∷ drop (suc i) xs) (sym is))

-- a source that is passed, where the names of all before it are within the limit
pub passed_source : (base : List ℕ) (ss : List SourceValue) (i : ℕ) (s : SourceValue) → i < length ss → s ≡ get_or ss i s → length (resolved_text base s) ≤ 4096 → all_resolved base (drop i ss) ≡ all_resolved base ss
    → all_resolved base (drop (i + 1) ss) ≡ all_resolved base ss
passed_source base ss i s below is few so = sym (resolved_within base s few (drop (i + 1) ss)) ∙ ap (all_resolved base) (sym (rest_is ss i s below is)) ∙ so

-- a source that is refused there
pub refused_source : (base : List ℕ) (ss : List SourceValue) (i : ℕ) (s : SourceValue) → i < length ss → s ≡ get_or ss i s → 4096 < length (resolved_text base s) → all_resolved base (drop i ss) ≡ all_resolved base ss
    → Err (Limit limits.Name (length (resolved_text base s))) ≡ all_resolved base ss
refused_source base ss i s below is long so = sym (resolved_past base s long (drop (i + 1) ss)) ∙ ap (all_resolved base) (sym (rest_is ss i s below is)) ∙ so

-- the sources of the bands that are left

left : (base : List ℕ) (bs : List BandValue) (i : ℕ) (b : BandValue) (ss : List SourceValue) → ss ≡ b.sources → i < length bs → b ≡ get_or bs i b
    → all_resolved base (flat_map (λ (c : BandValue). c.sources) (drop i bs)) ≡ (all_resolved base ss >>= λ _. all_resolved base (flat_map (λ (c : BandValue). c.sources) (drop (i + 1) bs)))
left base bs i b ss of_band below is =
    ap (λ l. all_resolved base (flat_map (λ (c : BandValue). c.sources) l)) (rest_is bs i b below is)
    ∙ resolved_both base b.sources (flat_map (λ (c : BandValue). c.sources) (drop (i + 1) bs))
    ∙ ap (λ l. all_resolved base l >>= λ _. all_resolved base (flat_map (λ (c : BandValue). c.sources) (drop (i + 1) bs))) (sym of_band)

-- a band none of whose sources is refused
pub passed_band : (base : List ℕ) (bs : List BandValue) (i : ℕ) (b : BandValue) (ss : List SourceValue) (u : Unit {0}) → ss ≡ b.sources → i < length bs → b ≡ get_or bs i b → all_resolved base ss ≡ Ok u
    → all_resolved base (flat_map (λ (c : BandValue). c.sources) (drop i bs)) ≡ all_resolved base (flat_map (λ (c : BandValue). c.sources) bs)
    → all_resolved base (flat_map (λ (c : BandValue). c.sources) (drop (i + 1) bs)) ≡ all_resolved base (flat_map (λ (c : BandValue). c.sources) bs)
passed_band base bs i b ss u of_band below is passed so =
    sym (ap (λ (r : Result (Unit {0}) WalkFault). r >>= λ _. all_resolved base (flat_map (λ (c : BandValue). c.sources) (drop (i + 1) bs))) passed) ∙ sym (left base bs i b ss of_band below is) ∙ so

-- a band one of whose sources is refused
pub refused_band : (base : List ℕ) (bs : List BandValue) (i : ℕ) (b : BandValue) (ss : List SourceValue) (f : WalkFault) → ss ≡ b.sources → i < length bs → b ≡ get_or bs i b → all_resolved base ss ≡ Err f
    → all_resolved base (flat_map (λ (c : BandValue). c.sources) (drop i bs)) ≡ all_resolved base (flat_map (λ (c : BandValue). c.sources) bs)
    → Err f ≡ all_resolved base (flat_map (λ (c : BandValue). c.sources) bs)
refused_band base bs i b ss f of_band below is refused so =
    sym (ap (λ (r : Result (Unit {0}) WalkFault). r >>= λ _. all_resolved base (flat_map (λ (c : BandValue). c.sources) (drop (i + 1) bs))) refused) ∙ sym (left base bs i b ss of_band below is) ∙ so

-- what is refused of the names of sources

ok≢err : {T : Type 0} {x : T} {f : WalkFault} → Ok x ≡ Err f → ⊥
ok≢err is = cc

err_same : (T : Type 0) (f g : WalkFault) → (let x : Result T WalkFault = Err f in x) ≡ Err g → f ≡ g
err_same T f g is = cc

limit≢unknown : {n : List ℕ} {len : ℕ} → Limit limits.Name len ≡ NotRecognized n → ⊥
limit≢unknown is = cc

limit≢malformed : {n : List ℕ} {b : Bad} {len : ℕ} → Limit limits.Name len ≡ Malformed n b → ⊥
limit≢malformed is = cc

limit≢outside : {len : ℕ} → Limit limits.Name len ≡ FolderFault → ⊥
limit≢outside is = cc

long_source : (base : List ℕ) (ss : List SourceValue) (f : WalkFault) → all_resolved base ss ≡ Err f → (len : ℕ) × (f ≡ Limit limits.Name len)
long_source base [] f is = absurd (ok≢err is)
long_source base (s ∷ ss) f is = by_name (source_name base s) (long_source base ss f) is
  where
    by_name : (o : Option (List ℕ)) → (all_resolved base ss ≡ Err f → (len : ℕ) × (f ≡ Limit limits.Name len)) → (ok_or o (Limit limits.Name (length (resolved_text base s))) >>= λ name. all_resolved base ss) ≡ Err f → (len : ℕ) × (f ≡ Limit limits.Name len)
    by_name (Some name) rest is = rest is
    by_name None rest is = (length (resolved_text base s), err_same (Unit {0}) f _ (sym is))

long_name : (name : List ℕ) (content : Content) (f : WalkFault) → names_within name content ≡ Err f → (len : ℕ) × (f ≡ Limit limits.Name len)
long_name name (File h) f is = absurd (ok≢err is)
long_name name (Mosaic d) f is = long_source name (sources_of d) f is

pub long_unknown : {T : Type 0} (kind : Kind) (name : List ℕ) (content : Content) (f : WalkFault) → kind_in name ≡ Ok kind → names_within name content ≡ Err f → RefusesUnknown {T = T} name (Err f)
long_unknown {T = T} kind name content f known is =
    let long = long_name name content f is in
    record { always = λ g refused. absurd (ok≢err (sym known ∙ refused)); only = λ n here. absurd (limit≢unknown (sym long.1 ∙ err_same T f _ here)) }

pub long_owns : {T : Type 0} (name : List ℕ) (content : Content) (f : WalkFault) → names_within name content ≡ Err f → OwnsFaults {T = T} (Err f)
long_owns {T = T} name content f is n b here = absurd (limit≢malformed (sym (long_name name content f is).1 ∙ err_same T f _ here))

pub long_of_head : (name : List ℕ) (content : Content) (f : WalkFault) → names_within name content ≡ Err f → IsOfHead f
long_of_head name content f is = subst IsOfHead (sym (long_name name content f is).1) refl

pub long_cause : {T : Type 0} (name : List ℕ) (content : Content) (f : WalkFault) (before now : ℕ) → names_within name content ≡ Err f → before ≤ now → HasCause {T = T} FolderFault before now (Err f)
long_cause {T = T} name content f before now is later = record { later = later; failed = λ here. absurd (limit≢outside (sym (long_name name content f is).1 ∙ err_same T f _ here)) }

-- what a `?` gives back
pub err_is : {T : Type 0} (r : Result T WalkFault) (f : WalkFault) → IsErr r × IsErrAnd r (λ e. e ≡ f) → r ≡ Err f
err_is (Ok x) f h = absurd h.1
err_is (Err e) f h = ap Err h.1
