-- Walks through the sources of a mosaic.
use Rattle.std.proofs.Common.{◌≡◌, ◌∙◌, ◌⊎◌, inl, inr, ◌+◌, ◌<◌, ◌≤◌, ap, sym, subst, refl, ℕ, suc, List, [], ◌∷◌, ◌++◌, length, take, drop, Bool, true, false, cond, Option, Some, None, Result, Ok, Err, arith, append_assoc}
use Rattle.std.specs.Prelude.{◌-◌, ◌||◌, IfOk, IfErr, OnOk, slice_get, flat_map, nat_lt, ok_or}
use Rattle.std.proofs.lemmas.Bool.Decides.{nat_tests}
use Rattle.std.proofs.lemmas.Grind.{flat_map-append}
use Rattle.std.proofs.lemmas.List.{take_all, append-nil}
use Rattle.lists_and_answers.specs.Answers.{Gives, ◌>>=◌}
use Rattle.lists_and_answers.specs.Lists.{flattened}
use Rattle.outside.specs.Outside.{Files}
use Rattle.vrt_profile.specs.Values.{SourceValue, BandValue}
use Rattle.vrt_profile.specs.Resolve.{resolved_text}
use Rattle.catalog.specs.declared.faults.LimitKind.TheVariants as limits
use Rattle.catalog.specs.declared.faults.WalkFault.{WalkFault}
use Rattle.catalog.specs.declared.faults.Bad.TheVariants as bad
use Rattle.catalog.specs.declared.faults.WalkFault.TheVariants.{Limit, Malformed, SourceBand}
use Rattle.catalog.specs.Dataset.{band_at}
use Rattle.vrt_markup.specs.declared.fault.VrtFault.TheVariants as vrt
use Rattle.vrt_profile.specs.Value.{is_plain}
use Rattle.catalog.specs.declared.walk.Wanted.{Wanted}
use Rattle.catalog.specs.Drivers.{Dataset}
use Rattle.catalog.specs.Mosaics.{source_name}
use Rattle.catalog.specs.Outcomes.{IsOutside, IsMemory}
use Rattle.catalog.specs.Heads.{resolved}
use Rattle.catalog.specs.Walk.{Met, dataset_named, bands_of, band_named, is_narrow_band, IsWalked, one_more_source, unless_no_band, unless_no_samples, unless_wide, visit, visit_source, visit_sources}
use Rattle.catalog.specs.Linked.{State, met_of, IsLinked, IsPath, IsMember, Each, Grows, Goes, one_counted, most, height_at, height_in, IsMosaicAt, HasBand, HasSource}
use Rattle.catalog.specs.Walking.{Seen, IsOrdinaryFault, WalksOn, ReadsOnce, Visits, Passes, Names, Reaches, ReachesRows}
use Rattle.catalog.proofs.Found.{each_more, each_map, member_stays, most_stays, flat_rows, rows_stay, named_at}
use Rattle.catalog.proofs.Rows.{most_append}
use Rattle.catalog.proofs.Loops.{item_more, item_split, from_more}
use Rattle.catalog.proofs.States.{goes_one, grows_refl, item_there}
use Rattle.catalog.proofs.Walking.{fault_is, ok≢err, walks_plain, walks_err, walks_then, passes_none, passes_stop, passes_then, passes_refused}
use Rattle.catalog.proofs.Visits.{source_named, still_refused}

-- a source

bind_fails : {A B C : Type 0} (x : Result A WalkFault) (y : Result B WalkFault) (k : B → Result C WalkFault) (f : WalkFault) → (x >>= λ c. y) ≡ Err f → (x >>= λ c. y >>= k) ≡ Err f
bind_fails (Ok c) y k f is = ap (λ r. r >>= k) is
bind_fails (Err e) y k f is = ap Err (fault_is _ e f is)

bind_both : {A B : Type 0} (x : Result A WalkFault) (y : Result B WalkFault) (b : B) → (x >>= λ c. y) ≡ Ok b → y ≡ Ok b
bind_both (Ok c) y b is = is
bind_both (Err e) y b is = absurd (ok≢err (sym is))

counted_by : {B : Type 0} (x : Result (Unit {0}) WalkFault) (y : Result B WalkFault) (b : B) → (x >>= λ c. y) ≡ Ok b → x ≡ Ok tt
counted_by (Ok c) y b is = refl
counted_by (Err e) y b is = absurd (ok≢err (sym is))

one_is : (r : Result Met WalkFault) → (r >>= λ e. Ok e) ≡ r
one_is (Ok e) = refl
one_is (Err f) = refl

module _ (below : Met → List ℕ → Result Met WalkFault) (base : List ℕ) (met : Met) (s : SourceValue) where
  unresolved : (f : WalkFault) → IsMemory f ⊎ ((one_more_source met.sources >>= λ c. resolved base s) ≡ Err f) → IsOutside f ⊎ (visit_sources below base met (s ∷ []) ≡ Err f)
  unfolding visit_source
  unresolved f (inl free) = inl (subst IsOutside (sym free) tt)
  unresolved f (inr is) = inr (one_is (visit_source below base met s) ∙ bind_fails (one_more_source met.sources) (resolved base s) (λ name. below (record { datasets = met.datasets; sources = met.sources + 1 }) name >>= λ after. unless_no_samples after.datasets base name s.band (is_plain s) >>= λ there. Ok after) f is)

  named_one : (name : List ℕ) → (one_more_source met.sources >>= λ c. resolved base s) ≡ Ok name → visit_sources below base met (s ∷ []) ≡ (below (record { datasets = met.datasets; sources = met.sources + 1 }) name >>= λ after. unless_no_samples after.datasets base name s.band (is_plain s) >>= λ there. Ok after)
  named_one name is = one_is (visit_source below base met s) ∙ source_named below base met s name (counted_by (one_more_source met.sources) (resolved base s) name is) (bind_both (one_more_source met.sources) (resolved base s) name is)

abbrev passed : Result (Unit {0}) WalkFault
passed = Ok tt

passes_test : (b : Bool) (f : WalkFault) → cond b passed (Err f) ≡ passed → b ≡ true
passes_test true f is = refl
passes_test false f is = absurd (ok≢err (sym is))

not_full : (n : ℕ) → one_more_source n ≡ Ok tt → n < 262144
not_full n is = by_test (nat_lt n 262144) refl is
  where
    by_test : (b : Bool) → nat_lt n 262144 ≡ b → cond b passed (Err (Limit limits.Sources 262145)) ≡ passed → n < 262144
    by_test true e ok = grind (arith, nat_tests)
    by_test false e ok = absurd (ok≢err (sym ok))

resolves_to : (base : List ℕ) (s : SourceValue) (name : List ℕ) → resolved base s ≡ Ok name → source_name base s ≡ Some name
resolves_to base s name is = by_name (source_name base s) is
  where
    by_name : (o : Option (List ℕ)) → ok_or o (Limit limits.Name (length (resolved_text base s))) ≡ Ok name → o ≡ Some name
    by_name (Some n) e = (let same : n ≡ name = cc in ap Some same)
    by_name None e = absurd (ok≢err (sym e))

counted_walks : (base : List ℕ) (s : SourceValue) (a : Seen) (old mid : State) (w : Wanted) → IsLinked old → Names base s old mid (Ok w) → WalksOn 1 a a old mid (Ok w)
counted_walks base s a old mid w linked n =
    let goes = goes_one old linked (not_full old.sources (counted_by (one_more_source old.sources) (resolved base s) w.name n.told)) in
    record {
      grows = n.grows;
      goes = subst (λ (st : State). Goes 1 old st) (sym n.counted) goes;
      read = λ m told walked. subst (λ (st : State). IsWalked m st.datasets) (sym n.counted) walked;
      known = λ k is. absurd (ok≢err is);
      own = λ k y is. absurd (ok≢err is);
      names = refl;
      writes = refl;
      cause = record { later = omega arith; failed = λ is. absurd (ok≢err is) };
    }

pub counted_linked : (base : List ℕ) (s : SourceValue) (old mid : State) (w : Wanted) → IsLinked old → Names base s old mid (Ok w) → IsLinked mid
counted_linked base s old mid w linked n = subst IsLinked (sym n.counted) (goes_one old linked (not_full old.sources (counted_by (one_more_source old.sources) (resolved base s) w.name n.told))).linked

-- a source of a band of a mosaic, by number

abbrev pub counted_source : (old new : State) (id band source : ℕ) → new ≡ one_counted old → (w : HasSource old id band source) → HasSource new id band source
counted_source old new id band source is w = record {
  of = record {
    mosaic = record { dataset = w.of.mosaic.dataset; document = w.of.mosaic.document; at = subst (λ (st : State). slice_get st.datasets id ≡ Some w.of.mosaic.dataset) (sym is) w.of.mosaic.at; content = w.of.mosaic.content };
    value = w.of.value;
    band_at = w.of.band_at;
  };
  value = w.value;
  source_at = w.source_at;
}

pub names_uncounted : (base : List ℕ) (s : SourceValue) (old new : State) (f : WalkFault) → IsMemory f ⊎ (one_more_source old.sources ≡ Err f) → IsOrdinaryFault f → new ≡ old → Names base s old new (Err f)
names_uncounted base s old new f told plain same = record { told = by_told told; band = tt; kept = tt; grows = subst (λ (st : State). Grows old st) (sym same) (grows_refl old); counted = tt; plain = plain }
  where
    by_told : IsMemory f ⊎ (one_more_source old.sources ≡ Err f) → IsMemory f ⊎ ((one_more_source old.sources >>= λ c. resolved base s) ≡ Err f)
    by_told (inl free) = inl free
    by_told (inr is) = inr (ap (λ r. r >>= λ c. resolved base s) is)

pub names_resolved : (base : List ℕ) (s : SourceValue) (old new : State) (r : Result Wanted WalkFault) → one_more_source old.sources ≡ Ok tt → new ≡ one_counted old → Gives IsMemory (λ (w : Wanted). w.name) r (resolved base s) → IfOk r (λ (w : Wanted). w.band ≡ s.band) → IfOk r (λ (w : Wanted). w.plain ≡ is_plain s) → IfErr r IsOrdinaryFault → Names base s old new r
names_resolved base s old new r room counted told band kept plain = record {
  told = subst (λ x. Gives IsMemory (λ (w : Wanted). w.name) r x) (sym (ap (λ x. x >>= λ c. resolved base s) room)) told;
  band = band;
  kept = kept;
  grows = subst (λ (st : State). Grows old st) (sym counted) (record { datasets = λ id d is. is; links = λ id l is. is });
  counted = on_ok r;
  plain = plain;
}
  where
    on_ok : (r : Result Wanted WalkFault) → OnOk r (new ≡ one_counted old)
    on_ok (Ok w) = counted
    on_ok (Err f) = tt

-- an item that is counted
pub item_counted : {T : Type 0} (xs ys : List T) (k n : ℕ) → k < n → n ≡ length ys → ys ≡ xs → (x : T) × (slice_get xs k ≡ Some x)
item_counted xs ys k n less is same = item_there xs k (omega (arith, ap length same))

-- what was met before is still there

abbrev pub grown_mosaic : (old new : State) (id : ℕ) → Grows old new → (w : IsMosaicAt old id) → IsMosaicAt new id
grown_mosaic old new id grows w = record { dataset = w.dataset; document = w.document; at = grows.datasets id w.dataset w.at; content = w.content }

-- a mosaic is still there after two steps
pub mosaic_still : (old mid new : State) (id : ℕ) → Grows old mid → Grows mid new → (w : IsMosaicAt old id) → slice_get new.datasets id ≡ Some w.dataset
mosaic_still old mid new id first second w = second.datasets id w.dataset (first.datasets id w.dataset w.at)

abbrev pub grown_band : (old new : State) (id band : ℕ) → Grows old new → (w : HasBand old id band) → HasBand new id band
grown_band old new id band grows w = record { mosaic = grown_mosaic old new id grows w.mosaic; value = w.value; band_at = w.band_at }

abbrev pub source_there : (old new : State) (id band source : ℕ) → Grows old new → (w : HasBand old id band) → (s : SourceValue) → slice_get w.value.sources source ≡ Some s → HasSource new id band source
source_there old new id band source grows w s at = record { of = grown_band old new id band grows w; value = s; source_at = at }

abbrev pub band_there : (old new : State) (id band : ℕ) → Grows old new → (w : IsMosaicAt old id) → (b : BandValue) → slice_get w.document.bands band ≡ Some b → HasBand new id band
band_there old new id band grows w b at = record { mosaic = grown_mosaic old new id grows w; value = b; band_at = at }

module _ (verify : Bool) (room : ℕ) (base : List ℕ) (s : SourceValue) where
  pub source_unnamed : (T : Type 0) (P : T → Type 0) (a : Seen) (old new : State) (f : WalkFault) → Names base s old new (Err f) → Passes verify room base (s ∷ []) a a old new P (Err f)
  source_unnamed T P a old new f n = record {
    walks = walks_plain T 1 a old new f n.grows n.plain;
    told = λ m told path is. unresolved (λ e k. visit m verify room path e k) base (met_of old) s f n.told;
    reads = tt;
    reached = tt;
  }

  module _ (a b : Seen) (old mid new : State) (w : Wanted) (linked : IsLinked old) (n : Names base s old mid (Ok w)) where
    counted_path : (path : List (List ℕ)) → IsPath old path → IsPath mid path
    counted_path path is name = is name ∙ (counted_walks base s a old mid w linked n).goes.same_open name

    visited_as : (m : Files) (path : List (List ℕ)) → visit_sources (λ e k. visit m verify room path e k) base (met_of old) (s ∷ []) ≡ (visit m verify room path (met_of mid) w.name >>= λ after. unless_no_samples after.datasets base w.name s.band (is_plain s) >>= λ there. Ok after)
    visited_as m path =
        named_one (λ e k. visit m verify room path e k) base (met_of old) s w.name n.told
        ∙ ap (λ (st : State). visit m verify room path (met_of st) w.name >>= λ after. unless_no_samples after.datasets base w.name s.band (is_plain s) >>= λ there. Ok after) (sym n.counted)

    pub source_unvisited : (T : Type 0) (P : T → Type 0) (f : WalkFault) → Visits verify room w.name a b mid new (Err f) → Passes verify room base (s ∷ []) a b old new P (Err f)
    source_unvisited T P f v = record {
      walks = walks_err ℕ T 1 1 a b old new f (walks_then Wanted ℕ 1 0 1 a a b old mid new w (Err f) (omega arith) (counted_walks base s a old mid w linked n) v.walks);
      told = λ m told path is.
          subst (λ (r : Result Met WalkFault). IsOutside f ⊎ (r ≡ Err f)) (sym (visited_as m path))
          (still_refused (visit m verify room path (met_of mid) w.name) (λ after. unless_no_samples after.datasets base w.name s.band (is_plain s) >>= λ there. Ok after) f (v.told m told path (counted_path path is)));
      reads = tt;
      reached = tt;
    }

    module _ (id : ℕ) (v : Visits verify room w.name a b mid new (Ok id)) where
      visited_walks : WalksOn 1 a b old new (Ok id)
      visited_walks = walks_then Wanted ℕ 1 0 1 a a b old mid new w (Ok id) (omega arith) (counted_walks base s a old mid w linked n) v.walks

      banded_as : (m : Files) → a.names ≡ Some m → (path : List (List ℕ)) → IsPath old path → visit_sources (λ e k. visit m verify room path e k) base (met_of old) (s ∷ []) ≡ (unless_no_samples new.datasets base w.name w.band w.plain >>= λ there. Ok (met_of new))
      banded_as m told path is =
          visited_as m path ∙ ap (λ r. r >>= λ after. unless_no_samples after.datasets base w.name s.band (is_plain s) >>= λ there. Ok after) (v.told m told path (counted_path path is))
          ∙ ap (λ k. unless_no_samples new.datasets base w.name k (is_plain s) >>= λ there. Ok (met_of new)) (sym n.band)
          ∙ ap (λ p. unless_no_samples new.datasets base w.name w.band p >>= λ there. Ok (met_of new)) (sym n.kept)

      pub source_bandless : (T : Type 0) (P : T → Type 0) (f : WalkFault) → IsOrdinaryFault f → IsMemory f ⊎ (unless_no_samples new.datasets base w.name w.band w.plain ≡ Err f) → Passes verify room base (s ∷ []) a b old new P (Err f)
      source_bandless T P f plain refused = record {
        walks = walks_then ℕ T 1 0 1 a b b old new new id (Err f) (omega arith) visited_walks (walks_plain T 0 b new new f (grows_refl new) plain);
        told = λ m told path is. subst (λ (r : Result Met WalkFault). IsOutside f ⊎ (r ≡ Err f)) (sym (banded_as m told path is)) (still_refused (unless_no_samples new.datasets base w.name w.band w.plain) (λ there. Ok (met_of new)) f (by_cause refused));
        reads = tt;
        reached = tt;
      }
        where
          by_cause : IsMemory f ⊎ (unless_no_samples new.datasets base w.name w.band w.plain ≡ Err f) → IsOutside f ⊎ (unless_no_samples new.datasets base w.name w.band w.plain ≡ Err f)
          by_cause (inl free) = inl (subst IsOutside (sym free) tt)
          by_cause (inr is) = inr is

      pub source_passed : unless_no_samples new.datasets base w.name w.band w.plain ≡ Ok tt → Passes verify room base (s ∷ []) a b old new (λ t. Reaches new room base (s ∷ []) (t ∷ [])) (Ok id)
      source_passed there = record {
        walks = visited_walks;
        told = λ m told path is. banded_as m told path is ∙ ap (λ r. r >>= λ t. Ok (met_of new)) there;
        reads = subst (λ (st : State). ReadsOnce verify a b st new) n.counted v.reads;
        reached = (let low = v.low in let height : height_at new.links id ≡ low.link.height = ap height_in low.met.whole in record {
          members = (
            record {
              name = w.name;
              dataset = low.dataset;
              link = low.link;
              resolves = resolves_to base s w.name (bind_both (one_more_source old.sources) (resolved base s) w.name n.told);
              number = v.number;
              at = low.met.at;
              whole = low.met.whole;
              band = subst (λ k. k ≤ length low.dataset.head.bands) n.band (band_is low.dataset (named_at new.datasets w.name id low.dataset v.number low.met.at));
              takes = taken low.dataset (named_at new.datasets w.name id low.dataset v.number low.met.at);
            },
            tt,
          );
          low = (let l = low.low in omega arith);
        });
      }
        where
          banded : unless_no_band new.datasets w.name w.band ≡ Ok tt
          banded = counted_by (unless_no_band new.datasets w.name w.band) (unless_wide new.datasets base w.name w.band w.plain) tt there

          narrow : unless_wide new.datasets base w.name w.band w.plain ≡ Ok tt
          narrow = bind_both (unless_no_band new.datasets w.name w.band) (unless_wide new.datasets base w.name w.band w.plain) tt there

          taken : (d : Dataset) → dataset_named new.datasets w.name ≡ Some d → is_plain s || is_narrow_band (band_at d.head (s.band - 1)) ≡ true
          taken d is =
              ap (λ p. p || is_narrow_band (band_at d.head (s.band - 1))) (sym n.kept) ∙ ap (λ k. w.plain || is_narrow_band (band_at d.head (k - 1))) (sym n.band)
              ∙ passes_test (w.plain || is_narrow_band (band_at d.head (w.band - 1))) (Malformed base (bad.Vrt vrt.Unsupported)) (sym (ap (λ o. cond (w.plain || is_narrow_band (band_named o w.band)) (Ok tt) (Err (Malformed base (bad.Vrt vrt.Unsupported)))) is) ∙ narrow)

          band_is : (d : Dataset) → dataset_named new.datasets w.name ≡ Some d → w.band ≤ length d.head.bands
          band_is d is = by_test (nat_lt (length d.head.bands) w.band) refl (sym (ap (λ o. cond (nat_lt (bands_of o) w.band) (Err (SourceBand w.name w.band)) (Ok tt)) is) ∙ banded)
            where
              by_test : (x : Bool) → nat_lt (length d.head.bands) w.band ≡ x → cond x (Err (SourceBand w.name w.band)) passed ≡ passed → w.band ≤ length d.head.bands
              by_test true e ok = absurd (ok≢err (sym ok))
              by_test false e ok = grind (arith, nat_tests)

-- sources of a band

-- nothing is reached before the first
reaches_none : (st : State) (room : ℕ) (base : List ℕ) → Reaches st room base [] []
reaches_none st room base = record { members = tt; low = omega arith }

reaches_more : (old new : State) (room : ℕ) (base : List ℕ) (ss : List SourceValue) (s : SourceValue) (row : List ℕ) (id : ℕ) → Grows old new → IsLinked new → Reaches old room base ss row → Reaches new room base (s ∷ []) (id ∷ []) → Reaches new room base (ss ++ s ∷ []) (row ++ id ∷ [])
reaches_more old new room base ss s row id grows linked before here = record {
  members = each_more (IsMember new base) ss row s id (each_map (IsMember old base) (IsMember new base) ss row (λ x i. member_stays old new base x i grows linked.apart) before.members) here.members.0;
  low = (let x = before.low in let y = here.low in omega (arith, most_append new.links row (id ∷ []), most_stays old new base ss row grows before.members));
}

module _ (verify : Bool) (room : ℕ) (base : List ℕ) (ss : List SourceValue) (a b c : Seen) (old mid new : State) where
  pub band_begins : (k : ℕ) → k ≡ 0 → IsLinked old → Passes verify room base (take k ss) a a old old (λ row. Reaches old room base (take k ss) row) (Ok [])
  band_begins k none linked = subst (λ (xs : List SourceValue). Passes verify room base xs a a old old (λ row. Reaches old room base xs row) (Ok [])) (sym (ap (λ n. take n ss) none)) (passes_none verify room base a old (λ (row : List ℕ). Reaches old room base [] row) [] linked (reaches_none old room base))

  module _ (k : ℕ) (row : List ℕ) (before : Passes verify room base (take k ss) a b old mid (λ row. Reaches mid room base (take k ss) row) (Ok row)) where
    pub band_refused : (s : SourceValue) (f : WalkFault) → slice_get ss k ≡ Some s → Passes verify room base (s ∷ []) b c mid new (λ t. Reaches new room base (s ∷ []) (t ∷ [])) (Err f) → Passes verify room base ss a c old new (λ row. Reaches new room base ss row) (Err f)
    band_refused s f at next =
        let upto = passes_refused verify room base (List ℕ) ℕ (List ℕ) (take k ss) (s ∷ []) a b c old mid new (λ r. Reaches mid room base (take k ss) r) (λ t. Reaches new room base (s ∷ []) (t ∷ [])) (λ r. Reaches new room base ss r) row f before next in
        subst (λ (xs : List SourceValue). Passes verify room base xs a c old new (λ row. Reaches new room base ss row) (Err f)) (append_assoc (take k ss) (s ∷ []) (drop (suc k) ss) ∙ sym (item_split ss k s at))
        (passes_stop verify room base (List ℕ) (List ℕ) (take k ss ++ s ∷ []) (drop (suc k) ss) a c old new (λ r. Reaches new room base ss r) (λ r. Reaches new room base ss r) f upto)

    pub band_more : (s : SourceValue) (id : ℕ) → slice_get ss k ≡ Some s → Passes verify room base (s ∷ []) b c mid new (λ t. Reaches new room base (s ∷ []) (t ∷ [])) (Ok id) → Passes verify room base (take (k + 1) ss) a c old new (λ row. Reaches new room base (take (k + 1) ss) row) (Ok (row ++ id ∷ []))
    band_more s id at next =
        subst (λ (xs : List SourceValue). Passes verify room base xs a c old new (λ row. Reaches new room base xs row) (Ok (row ++ id ∷ []))) (sym (item_more ss k s at))
        (passes_then verify room base (List ℕ) ℕ (List ℕ) (take k ss) (s ∷ []) a b c old mid new (λ r. Reaches mid room base (take k ss) r) (λ t. Reaches new room base (s ∷ []) (t ∷ [])) (λ r. Reaches new room base (take k ss ++ s ∷ []) r) row id (row ++ id ∷ []) before next
        (reaches_more mid new room base (take k ss) s row id next.walks.grows next.walks.goes.linked before.reached next.reached))

    pub band_ends : length ss ≤ k → Passes verify room base ss a b old mid (λ row. Reaches mid room base ss row) (Ok row)
    band_ends all = subst (λ (xs : List SourceValue). Passes verify room base xs a b old mid (λ row. Reaches mid room base xs row) (Ok row)) (take_all k ss all) before

-- sources of all bands

abbrev sources_from : List BandValue → List SourceValue
sources_from bands = flat_map (λ (b : BandValue). b.sources) bands

from_one : (bands : List BandValue) (k : ℕ) (b : BandValue) → slice_get bands k ≡ Some b → sources_from (take (k + 1) bands) ≡ sources_from (take k bands) ++ b.sources
from_one bands k b at = from_more bands k b at ∙ ap (λ xs. sources_from (take k bands) ++ xs) (append-nil b.sources)

from_split : (bands : List BandValue) (k : ℕ) (b : BandValue) → slice_get bands k ≡ Some b → sources_from bands ≡ (sources_from (take k bands) ++ b.sources) ++ sources_from (drop (suc k) bands)
from_split bands k b at =
    ap sources_from (item_split bands k b at) ∙ flat_map-append (λ (b : BandValue). b.sources) (take k bands) (b ∷ drop (suc k) bands)
    ∙ sym (append_assoc (sources_from (take k bands)) b.sources (sources_from (drop (suc k) bands)))

all_more : (rows : List (List ℕ)) (row : List ℕ) → flattened (rows ++ row ∷ []) ≡ flattened rows ++ row
all_more rows row = flat_map-append (λ (r : List ℕ). r) rows (row ∷ []) ∙ ap (λ xs. flattened rows ++ xs) (append-nil row)

rows_more : (old new : State) (room : ℕ) (base : List ℕ) (bands : List BandValue) (b : BandValue) (rows : List (List ℕ)) (row : List ℕ) → Grows old new → IsLinked new → ReachesRows old room base bands rows → Reaches new room base b.sources row → ReachesRows new room base (bands ++ b ∷ []) (rows ++ row ∷ [])
rows_more old new room base bands b rows row grows linked before here = record {
  members = each_more (λ (b : BandValue) (row : List ℕ). Each (IsMember new base) b.sources row) bands rows b row (rows_stay old new base bands rows grows linked.apart before.members) here.members;
  low = (let x = before.low in let y = here.low in omega (arith, ap (most new.links) (all_more rows row), most_append new.links (flattened rows) row, most_stays old new base (sources_from bands) (flattened rows) grows (flat_rows old base bands rows before.members)));
}

module _ (verify : Bool) (room : ℕ) (base : List ℕ) (bands : List BandValue) (a b c : Seen) (old mid new : State) where
  pub bands_begin : (k : ℕ) → k ≡ 0 → IsLinked old → Passes verify room base (flat_map (λ (b : BandValue). b.sources) (take k bands)) a a old old (λ rows. ReachesRows old room base (take k bands) rows) (Ok [])
  bands_begin k none linked = subst (λ (xs : List BandValue). Passes verify room base (sources_from xs) a a old old (λ rows. ReachesRows old room base xs rows) (Ok [])) (sym (ap (λ n. take n bands) none))
      (passes_none verify room base a old (λ (rows : List (List ℕ)). ReachesRows old room base [] rows) [] linked (record { members = tt; low = omega arith }))

  module _ (k : ℕ) (rows : List (List ℕ)) (before : Passes verify room base (flat_map (λ (b : BandValue). b.sources) (take k bands)) a b old mid (λ rows. ReachesRows mid room base (take k bands) rows) (Ok rows)) where
    pub bands_refused : (v : BandValue) (f : WalkFault) → slice_get bands k ≡ Some v → Passes verify room base v.sources b c mid new (λ row. Reaches new room base v.sources row) (Err f) → Passes verify room base (flat_map (λ (b : BandValue). b.sources) bands) a c old new (λ rows. ReachesRows new room base bands rows) (Err f)
    bands_refused v f at next =
        let upto = passes_refused verify room base (List (List ℕ)) (List ℕ) (List (List ℕ)) (sources_from (take k bands)) v.sources a b c old mid new (λ r. ReachesRows mid room base (take k bands) r) (λ r. Reaches new room base v.sources r) (λ r. ReachesRows new room base bands r) rows f before next in
        subst (λ (xs : List SourceValue). Passes verify room base xs a c old new (λ r. ReachesRows new room base bands r) (Err f)) (sym (from_split bands k v at))
        (passes_stop verify room base (List (List ℕ)) (List (List ℕ)) (sources_from (take k bands) ++ v.sources) (sources_from (drop (suc k) bands)) a c old new (λ r. ReachesRows new room base bands r) (λ r. ReachesRows new room base bands r) f upto)

    pub bands_more : (v : BandValue) (row : List ℕ) → slice_get bands k ≡ Some v → Passes verify room base v.sources b c mid new (λ row. Reaches new room base v.sources row) (Ok row) → Passes verify room base (flat_map (λ (b : BandValue). b.sources) (take (k + 1) bands)) a c old new (λ rows. ReachesRows new room base (take (k + 1) bands) rows) (Ok (rows ++ row ∷ []))
    bands_more v row at next =
        let whole = passes_then verify room base (List (List ℕ)) (List ℕ) (List (List ℕ)) (sources_from (take k bands)) v.sources a b c old mid new (λ r. ReachesRows mid room base (take k bands) r) (λ r. Reaches new room base v.sources r) (λ r. ReachesRows new room base (take (k + 1) bands) r) rows row (rows ++ row ∷ []) before next
        (subst (λ (xs : List BandValue). ReachesRows new room base xs (rows ++ row ∷ [])) (sym (item_more bands k v at)) (rows_more mid new room base (take k bands) v rows row next.walks.grows next.walks.goes.linked before.reached next.reached)) in
        subst (λ (xs : List SourceValue). Passes verify room base xs a c old new (λ rows. ReachesRows new room base (take (k + 1) bands) rows) (Ok (rows ++ row ∷ []))) (sym (from_one bands k v at)) whole

    pub bands_end : length bands ≤ k → Passes verify room base (flat_map (λ (b : BandValue). b.sources) bands) a b old mid (λ rows. ReachesRows mid room base bands rows) (Ok rows)
    bands_end all = subst (λ (xs : List BandValue). Passes verify room base (sources_from xs) a b old mid (λ rows. ReachesRows mid room base xs rows) (Ok rows)) (take_all k bands all) before
