-- What the links of a catalog say of its sources.
use Rattle.std.proofs.Common.{◌≡◌, ◌∙◌, ◌<◌, ◌≤◌, ap, subst, refl, ℕ, zero, suc, List, [], ◌∷◌, Option, Some, None, arith}
use Rattle.std.specs.Prelude.{slice_get, option_and_then}
use Rattle.lists_and_answers.specs.Options.{◌>>=◌}
use Rattle.lists_and_answers.specs.Lists.{flattened}
use Rattle.vrt_profile.specs.Values.{SourceValue, BandValue}
use Rattle.catalog.specs.declared.driver.Content.{Content}
use Rattle.catalog.specs.declared.driver.Content.TheVariants.{File, Mosaic}
use Rattle.catalog.specs.declared.links.Link.{Link}
use Rattle.catalog.specs.Drivers.{Dataset, document_of}
use Rattle.catalog.specs.Walk.{dataset_number_in}
use Rattle.catalog.specs.Links.{member_in, source_at, member_at, height_of}
use Rattle.catalog.specs.Linked.{State, IsMet, IsLinked, IsLinkOf, IsMember, Each, height_in, height_at, most}
use Rattle.catalog.proofs.Found.{some_is}
use Rattle.catalog.proofs.Heights.{height_is}
use Rattle.catalog.proofs.Rows.{most_append}

none≢some : {T : Type 0} {x : T} → None ≡ Some x → ⊥
none≢some e = cc

-- the item that goes with one at a place
pub record GoesWith {A B : Type 0} (R : A → B → Type 0) (x : A) (ys : List B) (k : ℕ) : Type 0 where
  pub item : B
  pub at : slice_get ys k ≡ Some item
  pub fits : R x item

pub goes_with : {A B : Type 0} (R : A → B → Type 0) (xs : List A) (ys : List B) (k : ℕ) (x : A) → Each R xs ys → slice_get xs k ≡ Some x → GoesWith R x ys k
goes_with R [] [] k x all is = absurd (none≢some is)
goes_with R [] (y ∷ ys) k x all is = absurd all
goes_with R (a ∷ xs) [] k x all is = absurd all
goes_with R (a ∷ xs) (y ∷ ys) zero x all is = record { item = y; at = refl; fits = subst (λ z. R z y) (some_is is) all.0 }
goes_with R (a ∷ xs) (y ∷ ys) (suc k) x all is = let g = goes_with R xs ys k x all.1 is in record { item = g.item; at = g.at; fits = g.fits }

-- a height among some
low_in : (links : List (Option Link)) (ids : List ℕ) (k id : ℕ) → slice_get ids k ≡ Some id → height_at links id ≤ most links ids
low_in links [] k id is = absurd (none≢some is)
low_in links (i ∷ ids) zero id is = let e : height_at links i ≡ height_at links id = ap (height_at links) (some_is is) in omega arith
low_in links (i ∷ ids) (suc k) id is = omega (arith, low_in links ids k id is)

low_among : (links : List (Option Link)) (rows : List (List ℕ)) (band k id : ℕ) (row : List ℕ) → slice_get rows band ≡ Some row → slice_get row k ≡ Some id → height_at links id ≤ most links (flattened rows)
low_among links [] band k id row is at = absurd (none≢some is)
low_among links (r ∷ rows) zero k id row is at =
    let here : slice_get r k ≡ Some id = ap (λ (xs : List ℕ). slice_get xs k) (some_is is) ∙ at in
    omega (arith, most_append links r (flattened rows), low_in links r k id here)
low_among links (r ∷ rows) (suc band) k id row is at = omega (arith, most_append links r (flattened rows), low_among links rows band k id row is at)

-- what is kept of a source of a mosaic
pub record IsKept (st : State) (d : Dataset) (l : Link) (band source : ℕ) : Type 0 where
  pub value : SourceValue
  pub row : List ℕ
  pub id : ℕ
  pub row_at : slice_get l.members band ≡ Some row
  pub id_at : slice_get row source ≡ Some id
  pub member : member_at st.datasets d band source ≡ Some id
  pub fits : IsMember st d.head.name value id
  pub falls : height_at st.links id < l.height

kept_in : (st : State) (d : Dataset) (l : Link) (band source : ℕ) (s : SourceValue) (c : Content) → d.content ≡ c → IsLinkOf st d.head.name c l → (document_of c >>= λ doc. slice_get doc.bands band >>= λ b. slice_get b.sources source) ≡ Some s → IsKept st d l band source
kept_in st d l band source s (File h) e link is = absurd (none≢some is)
kept_in st d l band source s (Mosaic doc) e link is = by_band (slice_get doc.bands band) refl is
  where
    by_band : (o : Option BandValue) → slice_get doc.bands band ≡ o → (o >>= λ b. slice_get b.sources source) ≡ Some s → IsKept st d l band source
    by_band None none at = absurd (none≢some at)
    by_band (Some b) there at =
        let row = goes_with (λ (b : BandValue) (row : List ℕ). Each (IsMember st d.head.name) b.sources row) doc.bands l.members band b link.rows there in
        let id = goes_with (IsMember st d.head.name) b.sources row.item source s row.fits at in
        let low = low_among st.links l.members band source id.item row.item row.at id.at in
        let height = link.height in
        let found : source_at d band source ≡ Some s = ap (λ c. document_of c >>= λ doc. slice_get doc.bands band >>= λ b. slice_get b.sources source) e ∙ ap (λ o. o >>= λ b. slice_get b.sources source) there ∙ at in
        record {
          value = s;
          row = row.item;
          id = id.item;
          row_at = row.at;
          id_at = id.at;
          member = ap (λ o. o >>= λ s. member_in st.datasets d.head.name s) found ∙ ap (option_and_then (dataset_number_in st.datasets)) id.fits.resolves ∙ id.fits.number;
          fits = id.fits;
          falls = omega arith;
        }

pub kept : (st : State) → IsLinked st → (id : ℕ) (d : Dataset) (l : Link) (band source : ℕ) (s : SourceValue) → IsMet st id d l → source_at d band source ≡ Some s → IsKept st d l band source
kept st linked id d l band source s met is = kept_in st d l band source s d.content refl (linked.whole id d l met.at met.whole).content is

-- the height of a catalog's dataset
pub height_known : (st : State) → IsLinked st → (id : ℕ) (d : Dataset) (l : Link) → IsMet st id d l → height_of st.datasets d ≡ l.height
unfolding height_of
height_known st linked id d l met = height_is 16 st linked id d l met (linked.whole id d l met.at met.whole).shallow

-- what a source names is lower than its mosaic
pub falls_below : (st : State) → IsLinked st → (id : ℕ) (d : Dataset) (l : Link) (band source : ℕ) (t : Dataset) → IsMet st id d l → (k : IsKept st d l band source) → slice_get st.datasets k.id ≡ Some t → height_of st.datasets t < height_of st.datasets d
falls_below st linked id d l band source t met k at =
    let there : height_of st.datasets t ≡ k.fits.link.height = height_known st linked k.id t k.fits.link (record { at = at; whole = k.fits.whole }) in
    let here : height_at st.links k.id ≡ k.fits.link.height = ap height_in k.fits.whole in
    omega (arith, height_known st linked id d l met, k.falls)
