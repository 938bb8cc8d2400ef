-- Heights of datasets, and their nesting.
use Rattle.std.proofs.Common.{◌≡◌, ◌∙◌, ◌≤◌, ap, sym, refl, ℕ, zero, suc, List, [], ◌∷◌, length, arith}
use Rattle.std.specs.Prelude.{All, max, option_map, ok_or}
use Rattle.std.specs.Option.{unwrap_or}
use Rattle.std.proofs.lemmas.List.Elements.{All-cons, All-nil}
use Rattle.lists_and_answers.specs.Options.{◌>>=◌}
use Rattle.lists_and_answers.specs.Lists.{flattened}
use Rattle.vrt_profile.specs.Values.{SourceValue}
use Rattle.vrt_profile.specs.Resolve.{resolved_text}
use Rattle.catalog.specs.declared.driver.Content.{Content}
use Rattle.catalog.specs.declared.driver.Content.TheVariants.{File, Mosaic}
use Rattle.catalog.specs.declared.faults.LimitKind.TheVariants as limits
use Rattle.catalog.specs.declared.faults.WalkFault.TheVariants.{Limit}
use Rattle.catalog.specs.declared.links.Link.{Link}
use Rattle.catalog.specs.Drivers.{Dataset}
use Rattle.catalog.specs.Mosaics.{sources_of, source_name}
use Rattle.catalog.specs.Walk.{dataset_named, sources_in, HasMember, IsNoMosaic, IsNested}
use Rattle.catalog.specs.Links.{greatest, height_step, height_within}
use Rattle.catalog.specs.Linked.{State, IsMet, IsLinked, IsLinkOf, IsMember, Each, height_in, height_at, most}
use Rattle.catalog.proofs.Found.{named_at, flat_rows}

AreHigh : State → (Dataset → ℕ) → ℕ → Type 0
AreHigh st f height = (id : ℕ) (d : Dataset) (l : Link) → IsMet st id d l → l.height ≤ height → f d ≡ l.height

-- the height of what a source names
source_high : (st : State) (f : Dataset → ℕ) (base : List ℕ) (s : SourceValue) (id : ℕ) (t : IsMember st base s id) → f t.dataset ≡ t.link.height
    → unwrap_or (option_map f (source_name base s >>= λ name. dataset_named st.datasets name)) 0 ≡ height_at st.links id
source_high st f base s id t is =
    ap (λ o. unwrap_or (option_map f (o >>= λ name. dataset_named st.datasets name)) 0) t.resolves
    ∙ ap (λ o. unwrap_or (option_map f o) 0) (named_at st.datasets t.name id t.dataset t.number t.at)
    ∙ is ∙ sym (ap height_in t.whole)

greatest_is : (st : State) (f : Dataset → ℕ) (base : List ℕ) (ss : List SourceValue) (ids : List ℕ) (height : ℕ) → Each (IsMember st base) ss ids → most st.links ids ≤ height → AreHigh st f height → greatest f st.datasets base ss ≡ most st.links ids
unfolding AreHigh
greatest_is st f base [] [] height all low high = refl
greatest_is st f base [] (id ∷ ids) height all low high = absurd all
greatest_is st f base (s ∷ ss) [] height all low high = absurd all
greatest_is st f base (s ∷ ss) (id ∷ ids) height all low high =
    let t = all.0 in
    let h : height_at st.links id ≡ t.link.height = ap height_in t.whole in
    let here : t.link.height ≤ height = omega arith in
    let rest : most st.links ids ≤ height = omega arith in
    ap (λ n. max n (greatest f st.datasets base ss)) (source_high st f base s id t (high id t.dataset t.link (record { at = t.at; whole = t.whole }) here))
    ∙ ap (λ n. max (height_at st.links id) n) (greatest_is st f base ss ids height all.1 rest high)

step_is : (st : State) (f : Dataset → ℕ) (name : List ℕ) (c : Content) (l : Link) (height : ℕ) → IsLinkOf st name c l → l.height ≤ suc height → AreHigh st f height → height_step f st.datasets name c ≡ l.height
step_is st f name (File h) l height is low high = sym is
step_is st f name (Mosaic doc) l height is low high =
    let e = is.height in
    ap suc (greatest_is st f name (sources_of doc) (flattened l.members) height (flat_rows st name doc.bands l.members is.rows) (omega arith) high) ∙ sym is.height

-- the height that is kept is that of the definition
pub height_is : (room : ℕ) (st : State) → IsLinked st → (id : ℕ) (d : Dataset) (l : Link) → IsMet st id d l → l.height ≤ room → height_within room st.datasets d ≡ l.height
unfolding AreHigh
height_is zero st linked id d l met low = omega arith
height_is (suc room) st linked id d l met low = step_is st (λ t. height_within room st.datasets t) d.head.name d.content l room (linked.whole id d l met.at met.whole).content low (λ id' d' l' met' low'. height_is room st linked id' d' l' met' low')

-- nesting

AreNested : State → (Dataset → Type 0) → ℕ → Type 0
AreNested st P height = (id : ℕ) (d : Dataset) (l : Link) → IsMet st id d l → l.height ≤ height → P d

members_nested : (st : State) (P : Dataset → Type 0) (base : List ℕ) (ss : List SourceValue) (ids : List ℕ) (height : ℕ) → Each (IsMember st base) ss ids → most st.links ids ≤ height → AreNested st P height → All (HasMember P st.datasets base) ss
unfolding AreNested
members_nested st P base [] [] height all low nested = All-nil (HasMember P st.datasets base)
members_nested st P base [] (id ∷ ids) height all low nested = absurd all
members_nested st P base (s ∷ ss) [] height all low nested = absurd all
members_nested st P base (s ∷ ss) (id ∷ ids) height all low nested =
    let t = all.0 in
    let h : height_at st.links id ≡ t.link.height = ap height_in t.whole in
    let here : t.link.height ≤ height = omega arith in
    let rest : most st.links ids ≤ height = omega arith in
    let first : HasMember P st.datasets base s = record {
      name = t.name;
      dataset = t.dataset;
      resolves = ap (λ o. ok_or o (Limit limits.Name (length (resolved_text base s)))) t.resolves;
      named = named_at st.datasets t.name id t.dataset t.number t.at;
      band = t.band;
      takes = t.takes;
      asked = nested id t.dataset t.link (record { at = t.at; whole = t.whole }) here;
    } in
    All-cons (HasMember P st.datasets base) s ss first (members_nested st P base ss ids height all.1 rest nested)

content_nested : (st : State) (P : Dataset → Type 0) (name : List ℕ) (c : Content) (l : Link) (height : ℕ) → IsLinkOf st name c l → l.height ≤ suc height → AreNested st P height → All (HasMember P st.datasets name) (sources_in c)
content_nested st P name (File h) l height is low nested = All-nil (HasMember P st.datasets name)
content_nested st P name (Mosaic doc) l height is low nested =
    let e = is.height in
    members_nested st P name (sources_of doc) (flattened l.members) height (flat_rows st name doc.bands l.members is.rows) (omega arith) nested

content_file : (st : State) (name : List ℕ) (c : Content) (l : Link) → IsLinkOf st name c l → l.height ≤ 0 → IsNoMosaic c
content_file st name (File h) l is low = tt
content_file st name (Mosaic doc) l is low = let e = is.height in absurd (omega arith)

-- what is at most this high is nested at most this deep
pub nested_is : (room : ℕ) (st : State) → IsLinked st → (id : ℕ) (d : Dataset) (l : Link) → IsMet st id d l → l.height ≤ room → IsNested room st.datasets d
unfolding AreNested
nested_is zero st linked id d l met low = content_file st d.head.name d.content l (linked.whole id d l met.at met.whole).content low
nested_is (suc room) st linked id d l met low = content_nested st (λ t. IsNested room st.datasets t) d.head.name d.content l room (linked.whole id d l met.at met.whole).content low (λ id' d' l' met' low'. nested_is room st linked id' d' l' met' low')
