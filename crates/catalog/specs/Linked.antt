-- What a walk keeps of what it has met: a mosaic is open while the walk is below it, and every dataset that was met
-- whole has a link.
use Rattle.std.specs.Prelude.{◌≡◌, ◌<◌, ◌≤◌, ◌+◌, ◌-◌, ℕ, suc, max, Bool, true, false, ◌||◌, List, [], ◌∷◌, length, All}
use Rattle.std.specs.Prelude.{slice_get, ◌++◌, take, set, Option, Some, None, option_and_then, Err, nat_lt}
use Rattle.std.specs.Prelude.{if◌then◌else◌}
use Rattle.lists_and_answers.specs.Lists.{flattened, is_among}
use Rattle.vrt_profile.specs.Value.{is_plain}
use Rattle.vrt_profile.specs.Values.{DocumentValue, BandValue, SourceValue, most_sources}
use Rattle.catalog.specs.declared.driver.Content.{Content}
use Rattle.catalog.specs.declared.driver.Content.TheVariants.{File, Mosaic}
use Rattle.catalog.specs.declared.faults.WalkFault.TheVariants.{TooDeep}
use Rattle.catalog.specs.declared.links.Link.{Link}
use Rattle.catalog.specs.Dataset.{band_at, band_count, most_datasets, most_nestings}
use Rattle.catalog.specs.Drivers.{Dataset}
use Rattle.catalog.specs.Mosaics.{source_name}
use Rattle.catalog.specs.Walk.{Met, again, is_narrow_band, dataset_number_in, sources_among, IsDataset, IsApart}
use Rattle.catalog.specs.Walk.{IsCatalog}

-- the datasets in the order in which they were met, the link of each that was met whole, and the number of their
-- sources that were met
pub record State : Type 0 where
  pub datasets : List Dataset
  pub links : List (Option Link)
  pub sources : ℕ

-- the same without the links
abbrev pub met_of : State → Met
met_of st = record { datasets = st.datasets; sources = st.sources }

-- there is a dataset, which has no link yet
abbrev pub is_waiting : Option (Option Link) → Bool
is_waiting None = false
is_waiting (Some None) = true
is_waiting (Some (Some l)) = false

-- the mosaic of this name is open
abbrev pub is_open : State → List ℕ → Bool
is_open st name = is_waiting (option_and_then (slice_get st.links) (dataset_number_in st.datasets name))

-- the height of a dataset that was met whole
abbrev pub height_in : Option (Option Link) → ℕ
height_in None = 0
height_in (Some None) = 0
height_in (Some (Some l)) = l.height

-- the height of the dataset of a number
abbrev pub height_at : List (Option Link) → ℕ → ℕ
height_at links id = height_in (slice_get links id)

-- the greatest height of some datasets, or 0
abbrev pub most : List (Option Link) → List ℕ → ℕ
most links [] = 0
most links (id ∷ ids) = max (height_at links id) (most links ids)

-- the first of some datasets whose height is above this
abbrev pub first_above : List (Option Link) → ℕ → List ℕ → Option ℕ
first_above links room [] = None
first_above links room (id ∷ ids) = if nat_lt room (height_at links id) then Some id else first_above links room ids

-- the dataset of this number is what a source of the mosaic with the name `base` names: it was met whole, and has the
-- band, with samples that the source takes
pub record IsMember (st : State) (base : List ℕ) (s : SourceValue) (id : ℕ) : Type 0 where
  pub name : List ℕ
  pub dataset : Dataset
  pub link : Link
  pub resolves : source_name base s ≡ Some name
  pub number : dataset_number_in st.datasets name ≡ Some id
  pub at : slice_get st.datasets id ≡ Some dataset
  pub whole : slice_get st.links id ≡ Some (Some link)
  pub band : s.band ≤ band_count dataset.head
  pub takes : is_plain s || is_narrow_band (band_at dataset.head (s.band - 1)) ≡ true

-- two lists go together item by item
abbrev pub Each : {A B : Type 0} → (A → B → Type 0) → List A → List B → Type 0
Each R [] [] = Unit {0}
Each R [] (y ∷ ys) = ⊥
Each R (x ∷ xs) [] = ⊥
Each R (x ∷ xs) (y ∷ ys) = R x y × Each R xs ys

-- the numbers of what the sources of some bands name
abbrev pub AreMemberRows : State → List ℕ → List BandValue → List (List ℕ) → Type 0
AreMemberRows st base bands rows =
    Each (λ (b : BandValue) (row : List ℕ). Each (IsMember st base) b.sources row) bands rows

-- a mosaic is one higher than the highest dataset that its sources name
pub record IsMosaicLink (st : State) (name : List ℕ) (doc : DocumentValue) (l : Link) : Type 0 where
  pub rows : AreMemberRows st name doc.bands l.members
  pub height : l.height ≡ suc (most st.links (flattened l.members))

-- the link of a content: that of a file has the height 0
abbrev pub IsLinkOf : State → List ℕ → Content → Link → Type 0
IsLinkOf st name (File h) l = l.height ≡ 0
IsLinkOf st name (Mosaic doc) l = IsMosaicLink st name doc l

-- the link of a dataset
pub record IsLink (st : State) (d : Dataset) (l : Link) : Type 0 where
  pub content : IsLinkOf st d.head.name d.content l
  pub shallow : l.height ≤ most_nestings

-- what a walk keeps of what it has met, at any time
pub record IsLinked (st : State) : Type 0 where
  pub long : length st.links ≡ length st.datasets
  pub each : All IsDataset st.datasets
  pub few : length st.datasets ≤ most_datasets
  pub sources : st.sources ≤ most_sources
  pub apart : IsApart st.datasets
  pub whole : (id : ℕ) (d : Dataset) (l : Link) → slice_get st.datasets id ≡ Some d →
      slice_get st.links id ≡ Some (Some l) → IsLink st d l

-- one dataset more, with its link if it has one
abbrev pub pushed : State → Dataset → Option Link → State
pushed st d link = record { datasets = st.datasets ++ d ∷ []; links = st.links ++ link ∷ []; sources = st.sources }

-- the dataset of a number was met whole
abbrev pub met_whole : State → ℕ → Link → State
met_whole st id link = record { datasets = st.datasets; links = set st.links id (Some link); sources = st.sources }

-- the state with one source more
abbrev pub one_counted : State → State
one_counted st = record { datasets = st.datasets; links = st.links; sources = st.sources + 1 }

-- what was met before the number of datasets and of sources was this
abbrev pub cut_to : State → ℕ → ℕ → State
cut_to st count sources = record { datasets = take count st.datasets; links = take count st.links; sources = sources }

-- the dataset of this number is a mosaic
pub record IsMosaicAt (st : State) (id : ℕ) : Type 0 where
  pub dataset : Dataset
  pub document : DocumentValue
  pub at : slice_get st.datasets id ≡ Some dataset
  pub content : dataset.content ≡ Mosaic document

-- a mosaic that was met has this band
pub record HasBand (st : State) (id band : ℕ) : Type 0 where
  pub mosaic : IsMosaicAt st id
  pub value : BandValue
  pub band_at : slice_get mosaic.document.bands band ≡ Some value

-- the band has this source
pub record HasSource (st : State) (id band source : ℕ) : Type 0 where
  pub of : HasBand st id band
  pub value : SourceValue
  pub source_at : slice_get of.value.sources source ≡ Some value

-- a path has the open mosaics, and no other name
abbrev pub IsPath : State → List (List ℕ) → Type 0
IsPath st path = (name : List ℕ) → is_among path name ≡ is_open st name

-- a dataset that was met whole
pub record IsMet (st : State) (id : ℕ) (d : Dataset) (l : Link) : Type 0 where
  pub at : slice_get st.datasets id ≡ Some d
  pub whole : slice_get st.links id ≡ Some (Some l)

-- the dataset of this number was met whole, and is at most this high
pub record IsLow (st : State) (id room : ℕ) : Type 0 where
  pub dataset : Dataset
  pub link : Link
  pub met : IsMet st id dataset link
  pub low : link.height ≤ room

-- the dataset of this number was met whole, and is higher than this
pub record IsHigh (st : State) (id room : ℕ) : Type 0 where
  pub dataset : Dataset
  pub link : Link
  pub met : IsMet st id dataset link
  pub high : room < link.height

-- no dataset that was met whole and is at most this high stands on a path
abbrev pub IsOff : State → List (List ℕ) → ℕ → Type 0
IsOff st path height = (id : ℕ) (d : Dataset) (l : Link) → slice_get st.datasets id ≡ Some d →
    slice_get st.links id ≡ Some (Some l) → l.height ≤ height → is_among path d.head.name ≡ false

-- with this much room the checks of a dataset end with the mosaic of this name
pub record IsDeep (st : State) (room : ℕ) (id : ℕ) (name : List ℕ) : Type 0 where
  pub deep : (path : List (List ℕ)) (d : Dataset) (l : Link) → IsMet st id d l → IsOff st path l.height →
      again room st.datasets path d.head.name ≡ Err (TooDeep name)

-- what was met stays, and so does each link
pub record Grows (old new : State) : Type 0 where
  pub datasets : (id : ℕ) (d : Dataset) → slice_get old.datasets id ≡ Some d → slice_get new.datasets id ≡ Some d
  pub links : (id : ℕ) (l : Link) → slice_get old.links id ≡ Some (Some l) → slice_get new.links id ≡ Some (Some l)

-- the walk went on through this many sources, and through what they name: the same mosaics are open as before
pub record Goes (n : ℕ) (old new : State) : Type 0 where
  pub linked : IsLinked new
  pub same_open : (name : List ℕ) → is_open old name ≡ is_open new name
  pub counted : new.sources + sources_among old.datasets ≡ old.sources + n + sources_among new.datasets

-- nothing is open
pub record IsWholeWalk (st : State) : Type 0 where
  pub linked : IsLinked st
  pub catalog : IsCatalog st.datasets
  pub closed : (id : ℕ) (x : Option Link) → slice_get st.links id ≡ Some x → (l : Link) × (x ≡ Some l)
  pub counted : st.sources ≡ sources_among st.datasets
