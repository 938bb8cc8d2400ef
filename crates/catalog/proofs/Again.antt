-- What is checked of a dataset that was met whole, by its height.
use Rattle.std.proofs.Common.{◌≡◌, ◌∙◌, ◌<◌, ◌≤◌, ap, sym, subst, refl, cond, ℕ, zero, suc, List, [], ◌∷◌, length, Bool, true, false, Option, Some, Result, Ok, Err, arith, true≢false, bytes_eq}
use Rattle.std.specs.Prelude.{All, slice_get, nat_lt, ok_or, ◌||◌}
use Rattle.std.proofs.lemmas.Bool.Decides.{nat_tests}
use Rattle.std.proofs.lemmas.Slice.Eq.{bytes_eq-Decides}
use Rattle.lists_and_answers.specs.Answers.{◌>>=◌}
use Rattle.lists_and_answers.specs.Lists.{flattened, is_among}
use Rattle.vrt_profile.specs.Values.{SourceValue}
use Rattle.vrt_profile.specs.Resolve.{resolved_text}
use Rattle.catalog.specs.declared.kind.Kind.{Kind}
use Rattle.catalog.specs.declared.driver.DriverHead.{DriverHead}
use Rattle.catalog.specs.declared.driver.DriverHead.TheVariants.{Raw, Dted, Hgt, Ascii}
use Rattle.catalog.specs.declared.driver.Content.{Content}
use Rattle.catalog.specs.declared.driver.Content.TheVariants.{File, Mosaic}
use Rattle.catalog.specs.declared.faults.LimitKind.TheVariants as limits
use Rattle.catalog.specs.declared.faults.WalkFault.{WalkFault}
use Rattle.catalog.specs.declared.faults.WalkFault.TheVariants.{Cycle, TooDeep, Limit}
use Rattle.catalog.specs.declared.links.Link.{Link}
use Rattle.catalog.specs.Drivers.{Dataset, content_head}
use Rattle.catalog.specs.OwnFiles.{content_kind, driver_kind}
use Rattle.catalog.specs.Mosaics.{sources_of, source_name}
use Rattle.catalog.specs.Heads.{kind_in, resolved}
use Rattle.catalog.specs.Walk.{dataset_number_in, dataset_named, sources_in, unless_on, room_for, again_sources, again_below, again_step, again, IsDataset}
use Rattle.catalog.specs.Linked.{State, IsLinked, IsLinkOf, IsMet, IsHigh, IsOff, IsDeep, IsMember, Each, height_in, height_at, most, first_above}
use Rattle.catalog.proofs.Found.{some_is, of_item, named_at, name_at, flat_rows}
use Rattle.catalog.proofs.Rows.{rows_known}

-- kinds

head_kind : (name : List ℕ) (c : Content) → (content_head name c).kind ≡ content_kind c
head_kind name (File (Raw h)) = refl
head_kind name (File (Dted h)) = refl
head_kind name (File (Hgt side)) = refl
head_kind name (File (Ascii h)) = refl
head_kind name (Mosaic d) = refl

-- the kind of a dataset is that of its content
pub kind_is : (d : Dataset) → IsDataset d → d.head.kind ≡ content_kind d.content
kind_is d is = ap (λ h. h.kind) is.head ∙ head_kind d.head.name d.content

pub file_room : (room : ℕ) (name : List ℕ) (h : DriverHead) → room_for room (driver_kind h) name ≡ Ok tt
file_room zero name (Raw h) = refl
file_room zero name (Dted h) = refl
file_room zero name (Hgt side) = refl
file_room zero name (Ascii h) = refl
file_room (suc room) name (Raw h) = refl
file_room (suc room) name (Dted h) = refl
file_room (suc room) name (Hgt side) = refl
file_room (suc room) name (Ascii h) = refl

-- there is room for what is no higher than the room
room_by : (st : State) (room : ℕ) (name : List ℕ) (c : Content) (l : Link) → IsLinkOf st name c l → l.height ≤ room → room_for room (content_kind c) name ≡ Ok tt
room_by st room name (File h) l is low = file_room room name h
room_by st zero name (Mosaic doc) l is low = let high = is.height in absurd (omega arith)
room_by st (suc room) name (Mosaic doc) l is low = refl

no_room_by : (st : State) (name : List ℕ) (c : Content) (l : Link) → IsLinkOf st name c l → 0 < l.height → room_for 0 (content_kind c) name ≡ Err (TooDeep name)
no_room_by st name (File h) l is high = absurd (omega (arith, is))
no_room_by st name (Mosaic doc) l is high = refl

-- a dataset that was met whole and stands off the path is followed into its sources
unless_off : (path : List (List ℕ)) (name : List ℕ) → is_among path name ≡ false → unless_on path name ≡ Ok tt
unless_off path name off = ap (λ b. cond b (Err (Cycle name)) (Ok tt)) off

-- how the checks of a name begin
pub again_begins : (below : List (List ℕ) → List ℕ → Result (Unit {0}) WalkFault) (room : ℕ) (cat : List Dataset) (path : List (List ℕ)) (name : List ℕ) (kind : Kind) → kind_in name ≡ Ok kind → is_among path name ≡ false
    → again_step below room cat path name ≡ (room_for room kind name >>= λ shallow. again_below below path (dataset_named cat name))
unfolding again_step
again_begins below room cat path name kind is off =
    ap (λ r. r >>= λ k. unless_on path name >>= λ free. room_for room k name >>= λ shallow. again_below below path (dataset_named cat name)) is
    ∙ ap (λ r. r >>= λ free. room_for room kind name >>= λ shallow. again_below below path (dataset_named cat name)) (unless_off path name off)

again_into : (st : State) → IsLinked st → (below : List (List ℕ) → List ℕ → Result (Unit {0}) WalkFault) (room : ℕ) (path : List (List ℕ)) (id : ℕ) (d : Dataset) (l : Link) → IsMet st id d l → IsOff st path l.height
    → again_step below room st.datasets path d.head.name ≡ (room_for room (content_kind d.content) d.head.name >>= λ shallow. again_sources (below (d.head.name ∷ path)) d.head.name (sources_in d.content))
again_into st linked below room path id d l met off =
    let valid = of_item IsDataset st.datasets id d linked.each met.at in
    again_begins below room st.datasets path d.head.name d.head.kind valid.kind (off id d l met.at met.whole (omega arith))
    ∙ ap (λ k. room_for room k d.head.name >>= λ shallow. again_below below path (dataset_named st.datasets d.head.name)) (kind_is d valid)
    ∙ ap (λ o. room_for room (content_kind d.content) d.head.name >>= λ shallow. again_below below path o) (named_at st.datasets d.head.name id d (linked.apart id d met.at) met.at)

-- sources

member_resolves : (base : List ℕ) (s : SourceValue) (name : List ℕ) → source_name base s ≡ Some name → resolved base s ≡ Ok name
member_resolves base s name is = ap (λ o. ok_or o (Limit limits.Name (length (resolved_text base s)))) is

member_named : (st : State) (base : List ℕ) (s : SourceValue) (id : ℕ) → (t : IsMember st base s id) → t.dataset.head.name ≡ t.name
member_named st base s id t = name_at st.datasets t.name id t.dataset t.number t.at

-- the first source is followed, then the others
sources_step : (st : State) (below : List ℕ → Result (Unit {0}) WalkFault) (base : List ℕ) (s : SourceValue) (ss : List SourceValue) (id : ℕ) → (t : IsMember st base s id)
    → again_sources below base (s ∷ ss) ≡ (below t.dataset.head.name >>= λ checked. again_sources below base ss)
sources_step st below base s ss id t =
    ap (λ r. r >>= λ name. below name >>= λ checked. again_sources below base ss) (member_resolves base s t.name t.resolves)
    ∙ ap (λ name. below name >>= λ checked. again_sources below base ss) (sym (member_named st base s id t))

Fine : State → (List ℕ → Result (Unit {0}) WalkFault) → ℕ → Type 0
Fine st below height = (id : ℕ) (d : Dataset) (l : Link) → IsMet st id d l → l.height ≤ height → below d.head.name ≡ Ok tt

-- each source is fine where no one names what is higher
sources_fine : (st : State) (below : List ℕ → Result (Unit {0}) WalkFault) (base : List ℕ) (ss : List SourceValue) (ids : List ℕ) (height : ℕ) → Each (IsMember st base) ss ids → most st.links ids ≤ height → Fine st below height
    → again_sources below base ss ≡ Ok tt
unfolding Fine
sources_fine st below base [] [] height all low fine = refl
sources_fine st below base [] (id ∷ ids) height all low fine = absurd all
sources_fine st below base (s ∷ ss) [] height all low fine = absurd all
sources_fine st below base (s ∷ ss) (id ∷ ids) height all low fine =
    let t = all.0 in
    let h : height_at st.links id ≡ t.link.height = ap height_in t.whole in
    let here : t.link.height ≤ height = omega arith in
    let rest : most st.links ids ≤ height = omega arith in
    sources_step st below base s ss id t
    ∙ ap (λ r. r >>= λ checked. again_sources below base ss) (fine id t.dataset t.link (record { at = t.at; whole = t.whole }) here)
    ∙ sources_fine st below base ss ids height all.1 rest fine

content_fine : (st : State) (below : List ℕ → Result (Unit {0}) WalkFault) (name : List ℕ) (c : Content) (l : Link) (height : ℕ) → IsLinkOf st name c l → l.height ≤ suc height → Fine st below height
    → again_sources below name (sources_in c) ≡ Ok tt
content_fine st below name (File h) l height is low fine = refl
content_fine st below name (Mosaic doc) l height is low fine =
    let e = is.height in
    sources_fine st below name (sources_of doc) (flattened l.members) height (flat_rows st name doc.bands l.members is.rows) (omega arith) fine

content_flat : (st : State) (below : List ℕ → Result (Unit {0}) WalkFault) (name : List ℕ) (c : Content) (l : Link) → IsLinkOf st name c l → l.height ≤ 0 → again_sources below name (sources_in c) ≡ Ok tt
content_flat st below name (File h) l is low = refl
content_flat st below name (Mosaic doc) l is low = let e = is.height in absurd (omega arith)

-- below a dataset the path has its name too
pub below_off : (st : State) → IsLinked st → (path : List (List ℕ)) (id : ℕ) (d : Dataset) (l : Link) → IsMet st id d l → IsOff st path l.height → (height : ℕ) → height < l.height → IsOff st (d.head.name ∷ path) height
below_off st linked path id d l met off height less id' d' l' at whole low = by_test (bytes_eq d.head.name d'.head.name) refl
  where
    by_test : (b : Bool) → bytes_eq d.head.name d'.head.name ≡ b → (b || is_among path d'.head.name) ≡ false
    by_test true e =
        let named : d.head.name ≡ d'.head.name = (bytes_eq-Decides d.head.name d'.head.name).0 e in
        let same : id ≡ id' = some_is (sym (linked.apart id d met.at) ∙ ap (dataset_number_in st.datasets) named ∙ linked.apart id' d' at) in
        let links : l ≡ l' = some_is (some_is (sym met.whole ∙ ap (slice_get st.links) same ∙ whole)) in
        let heights : l.height ≡ l'.height = ap (λ (x : Link). x.height) links in
        absurd (omega arith)
    by_test false e = off id' d' l' at whole (omega arith)

-- a dataset that was met whole, with as much room as it is high
pub again_fine : (room : ℕ) (st : State) → IsLinked st → (path : List (List ℕ)) (id : ℕ) (d : Dataset) (l : Link) → IsMet st id d l → IsOff st path l.height → l.height ≤ room → again room st.datasets path d.head.name ≡ Ok tt
unfolding Fine
again_fine zero st linked path id d l met off low =
    let link = linked.whole id d l met.at met.whole in
    again_into st linked (λ p n. Ok tt) zero path id d l met off
    ∙ ap (λ r. r >>= λ shallow. again_sources (λ n. Ok tt) d.head.name (sources_in d.content)) (room_by st zero d.head.name d.content l link.content low)
    ∙ content_flat st (λ n. Ok tt) d.head.name d.content l link.content low
again_fine (suc room) st linked path id d l met off low =
    let link = linked.whole id d l met.at met.whole in
    again_into st linked (λ p n. again room st.datasets p n) (suc room) path id d l met off
    ∙ ap (λ r. r >>= λ shallow. again_sources (λ n. again room st.datasets (d.head.name ∷ path) n) d.head.name (sources_in d.content)) (room_by st (suc room) d.head.name d.content l link.content low)
    ∙ content_below st (λ n. again room st.datasets (d.head.name ∷ path) n) d.head.name d.content l link.content
    (λ id' d' l' met' less. again_fine room st linked (d.head.name ∷ path) id' d' l' met' (below_off st linked path id d l met off l'.height less) (omega arith))
  where
    content_below : (st : State) (below : List ℕ → Result (Unit {0}) WalkFault) (name : List ℕ) (c : Content) (l : Link) → IsLinkOf st name c l → ((id : ℕ) (d : Dataset) (m : Link) → IsMet st id d m → m.height < l.height → below d.head.name ≡ Ok tt) → again_sources below name (sources_in c) ≡ Ok tt
    content_below st below name (File h) l is fine = refl
    content_below st below name (Mosaic doc) l is fine =
        let e = is.height in
        sources_fine st below name (sources_of doc) (flattened l.members) (most st.links (flattened l.members)) (flat_rows st name doc.bands l.members is.rows) (omega arith) (λ id d m met low. fine id d m met (omega arith))

-- a mosaic for which there is no room
pub again_full : (st : State) → IsLinked st → (path : List (List ℕ)) (id : ℕ) (d : Dataset) (l : Link) → IsMet st id d l → IsOff st path l.height → 0 < l.height → again 0 st.datasets path d.head.name ≡ Err (TooDeep d.head.name)
again_full st linked path id d l met off high =
    let link = linked.whole id d l met.at met.whole in
    again_into st linked (λ p n. Ok tt) zero path id d l met off
    ∙ ap (λ r. r >>= λ shallow. again_sources (λ n. Ok tt) d.head.name (sources_in d.content)) (no_room_by st d.head.name d.content l link.content high)

-- the first source that names what is too high

pub above_there : (links : List (Option Link)) (room : ℕ) (ids : List ℕ) → room < most links ids → (id : ℕ) × (first_above links room ids ≡ Some id)
above_there links room [] high = absurd (omega arith)
above_there links room (id ∷ ids) high = by_test (nat_lt room (height_at links id)) refl (above_there links room ids)
  where
    by_test : (b : Bool) → nat_lt room (height_at links id) ≡ b → (room < most links ids → (k : ℕ) × (first_above links room ids ≡ Some k)) → (k : ℕ) × (cond b (Some id) (first_above links room ids) ≡ Some k)
    by_test true e rest = (id, refl)
    by_test false e rest = rest (let low : height_at links id ≤ room = grind (arith, nat_tests) in omega arith)

-- it is one that a source names, it is too high, and so the checks end with it
pub record EndsAt (st : State) (room : ℕ) (below : List ℕ → Result (Unit {0}) WalkFault) (base : List ℕ) (ss : List SourceValue) (id : ℕ) : Type 0 where
  pub dataset : Dataset
  pub link : Link
  pub met : IsMet st id dataset link
  pub high : room < link.height
  pub ends : (fault : WalkFault) → below dataset.head.name ≡ Err fault → again_sources below base ss ≡ Err fault

sources_end : (st : State) (room : ℕ) (below : List ℕ → Result (Unit {0}) WalkFault) (base : List ℕ) (ss : List SourceValue) (ids : List ℕ) (id : ℕ) → Each (IsMember st base) ss ids → Fine st below room → first_above st.links room ids ≡ Some id
    → EndsAt st room below base ss id
unfolding Fine
sources_end st room below base [] [] id all fine is = absurd (true≢false cc)
sources_end st room below base [] (k ∷ ks) id all fine is = absurd all
sources_end st room below base (s ∷ ss) [] id all fine is = absurd all
sources_end st room below base (s ∷ ss) (k ∷ ks) id all fine is = by_test (nat_lt room (height_at st.links k)) refl is (sources_end st room below base ss ks id all.1 fine)
  where
    by_test : (b : Bool) → nat_lt room (height_at st.links k) ≡ b → cond b (Some k) (first_above st.links room ks) ≡ Some id → (first_above st.links room ks ≡ Some id → EndsAt st room below base ss id) → EndsAt st room below base (s ∷ ss) id
    by_test true e first rest =
        let t = all.0 in
        let h : height_at st.links k ≡ t.link.height = ap height_in t.whole in
        let high : room < height_at st.links k = grind (arith, nat_tests) in
        let here : EndsAt st room below base (s ∷ ss) k = record {
          dataset = t.dataset;
          link = t.link;
          met = record { at = t.at; whole = t.whole };
          high = omega arith;
          ends = λ fault refused. sources_step st below base s ss k t ∙ ap (λ r. r >>= λ checked. again_sources below base ss) refused;
        } in
        subst (λ n. EndsAt st room below base (s ∷ ss) n) (some_is first) here
    by_test false e first rest =
        let t = all.0 in
        let h : height_at st.links k ≡ t.link.height = ap height_in t.whole in
        let low : height_at st.links k ≤ room = grind (arith, nat_tests) in
        let r = rest first in
        record {
          dataset = r.dataset;
          link = r.link;
          met = r.met;
          high = r.high;
          ends = λ fault refused.
              sources_step st below base s ss k t
              ∙ ap (λ r. r >>= λ checked. again_sources below base ss) (fine k t.dataset t.link (record { at = t.at; whole = t.whole }) (omega arith))
              ∙ r.ends fault refused;
        }

-- the checks of a mosaic end with the first of its sources that names what is too high
content_ends : (st : State) (room : ℕ) (below : List ℕ → Result (Unit {0}) WalkFault) (name : List ℕ) (c : Content) (l : Link) (id : ℕ) → IsLinkOf st name c l → room < l.height → Fine st below room → first_above st.links room (flattened l.members) ≡ Some id
    → EndsAt st room below name (sources_in c) id
content_ends st room below name (File h) l id is high fine first = absurd (omega (arith, is))
content_ends st room below name (Mosaic doc) l id is high fine first = sources_end st room below name (sources_of doc) (flattened l.members) id (flat_rows st name doc.bands l.members is.rows) fine first

height_of_content : (st : State) (room : ℕ) (name : List ℕ) (c : Content) (l : Link) → IsLinkOf st name c l → suc room < l.height → room < most st.links (flattened l.members)
height_of_content st room name (File h) l is high = absurd (omega (arith, is))
height_of_content st room name (Mosaic doc) l is high = let e = is.height in omega arith

-- what is too high has a source that names what is too high with one mosaic more on the path
pub high_there : (st : State) → IsLinked st → (room : ℕ) (id : ℕ) (d : Dataset) (l : Link) → IsMet st id d l → suc room < l.height → (k : ℕ) × (first_above st.links room (flattened l.members) ≡ Some k)
high_there st linked room id d l met high = above_there st.links room (flattened l.members) (height_of_content st room d.head.name d.content l (linked.whole id d l met.at met.whole).content high)

above_low : (links : List (Option Link)) (room : ℕ) (ids : List ℕ) (k : ℕ) → first_above links room ids ≡ Some k → height_at links k ≤ most links ids
above_low links room [] k is = absurd (true≢false cc)
above_low links room (id ∷ ids) k is = by_test (nat_lt room (height_at links id)) is (above_low links room ids k)
  where
    by_test : (b : Bool) → cond b (Some id) (first_above links room ids) ≡ Some k → (first_above links room ids ≡ Some k → height_at links k ≤ most links ids) → height_at links k ≤ most links (id ∷ ids)
    by_test true first rest = let e : height_at links k ≡ height_at links id = ap (height_at links) (sym (some_is first)) in omega arith
    by_test false first rest = let low = rest first in omega arith

most_low : (st : State) (name : List ℕ) (c : Content) (l : Link) → IsLinkOf st name c l → 0 < l.height → most st.links (flattened l.members) < l.height
most_low st name (File h) l is high = absurd (omega (arith, is))
most_low st name (Mosaic doc) l is high = let e = is.height in omega arith

-- the checks of what is too high end where those of its first source that names what is too high do
pub deep_step : (st : State) → IsLinked st → (room : ℕ) (id : ℕ) (d : Dataset) (l : Link) (k : ℕ) (name : List ℕ) → IsMet st id d l → suc room < l.height → first_above st.links room (flattened l.members) ≡ Some k → IsDeep st room k name → IsDeep st (suc room) id name
unfolding Fine
deep_step st linked room id d l k name met high first deep = record { deep = λ path d' l' met' off. same path d' l' (some_is (sym met.at ∙ met'.at)) (some_is (some_is (sym met.whole ∙ met'.whole))) off }
  where
    here : (path : List (List ℕ)) → IsOff st path l.height → again (suc room) st.datasets path d.head.name ≡ Err (TooDeep name)
    here path off =
        let link = linked.whole id d l met.at met.whole in
        let below = λ (n : List ℕ). again room st.datasets (d.head.name ∷ path) n in
        let fine : Fine st below room = λ i e m met' low. again_fine room st linked (d.head.name ∷ path) i e m met' (below_off st linked path id d l met off m.height (omega arith)) low in
        let ends = content_ends st room below d.head.name d.content l k link.content (omega arith) fine first in
        let h : height_at st.links k ≡ ends.link.height = ap height_in ends.met.whole in
        let less : ends.link.height < l.height = omega (arith, above_low st.links room (flattened l.members) k first, most_low st d.head.name d.content l link.content (omega arith)) in
        again_into st linked (λ p n. again room st.datasets p n) (suc room) path id d l met off
        ∙ ends.ends (TooDeep name) (deep.deep (d.head.name ∷ path) ends.dataset ends.link ends.met (below_off st linked path id d l met off ends.link.height less))

    same : (path : List (List ℕ)) (d' : Dataset) (l' : Link) → d ≡ d' → l ≡ l' → IsOff st path l'.height → again (suc room) st.datasets path d'.head.name ≡ Err (TooDeep name)
    same path d' l' e f off = subst (λ (x : Dataset). again (suc room) st.datasets path x.head.name ≡ Err (TooDeep name)) e (here path (subst (λ (x : Link). IsOff st path x.height) (sym f) off))

-- what is too high where there is no room at all
pub deep_here : (st : State) → IsLinked st → (id : ℕ) (d : Dataset) (l : Link) → IsMet st id d l → 0 < l.height → IsDeep st 0 id d.head.name
deep_here st linked id d l met high = record { deep = λ path d' l' met' off. same path d' l' (some_is (sym met.at ∙ met'.at)) (some_is (some_is (sym met.whole ∙ met'.whole))) off }
  where
    same : (path : List (List ℕ)) (d' : Dataset) (l' : Link) → d ≡ d' → l ≡ l' → IsOff st path l'.height → again 0 st.datasets path d'.head.name ≡ Err (TooDeep d.head.name)
    same path d' l' e f off = subst (λ (x : Dataset). again 0 st.datasets path x.head.name ≡ Err (TooDeep d.head.name)) e (again_full st linked path id d l met (subst (λ (x : Link). IsOff st path x.height) (sym f) off) high)

-- what it names is high too
pub high_next : (st : State) → IsLinked st → (room : ℕ) (id : ℕ) (d : Dataset) (l : Link) (k : ℕ) → IsMet st id d l → suc room < l.height → first_above st.links room (flattened l.members) ≡ Some k → IsHigh st k room
unfolding Fine
high_next st linked room id d l k met high first =
    let ends = content_ends st room (λ n. Ok tt) d.head.name d.content l k (linked.whole id d l met.at met.whole).content (omega arith) (λ i e m met' low. refl) first in
    record { dataset = ends.dataset; link = ends.link; met = ends.met; high = ends.high }

-- what the sources of a mosaic name is known
pub high_known : (st : State) → IsLinked st → (room : ℕ) (id : ℕ) (d : Dataset) (l : Link) → IsMet st id d l → room < l.height → All (λ row. All (λ id. id < length st.links) row) l.members
high_known st linked room id d l met high = by_content d.content (linked.whole id d l met.at met.whole).content
  where
    by_content : (c : Content) → IsLinkOf st d.head.name c l → All (λ row. All (λ id. id < length st.links) row) l.members
    by_content (File h) is = absurd (omega (arith, is))
    by_content (Mosaic doc) is = rows_known st d.head.name doc.bands l.members is.rows
