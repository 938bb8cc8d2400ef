-- The walk from a name to the datasets that it reaches, and what a catalog keeps of them.
use Rattle.std.specs.Prelude.{◌≡◌, ◌⊎◌, ◌≤◌, ◌+◌, ◌-◌, ℕ, zero, suc, Bool, false, true, ◌||◌, nat_le, List, [], ◌∷◌}
use Rattle.std.specs.Prelude.{◌++◌, length, All, bytes_eq, slice_get, Option, Some, None, option_and_then, Result, Ok}
use Rattle.std.specs.Prelude.{Err, nat_lt, if◌then◌else◌}
use Rattle.std.specs.List.{sum_by}
use Rattle.lists_and_answers.specs.Answers.{◌>>=◌}
use Rattle.lists_and_answers.specs.Lists.{is_among}
use Rattle.outside.specs.Outside.{Files}
use Rattle.geotransform.specs.Types.{byte_count}
use Rattle.vrt_profile.specs.Value.{is_plain}
use Rattle.vrt_profile.specs.Values.{SourceValue, most_sources}
use Rattle.vrt_markup.specs.declared.fault.VrtFault.TheVariants as vrt
use Rattle.catalog.specs.declared.kind.BandHead.{BandHead}
use Rattle.catalog.specs.declared.kind.Kind.{Kind}
use Rattle.catalog.specs.declared.kind.Kind.TheVariants as kinds
use Rattle.catalog.specs.declared.driver.Content.{Content}
use Rattle.catalog.specs.declared.driver.Content.TheVariants.{File, Mosaic}
use Rattle.catalog.specs.Dataset.{IsDatasetHead, band_at, band_count, most_datasets, most_nestings}
use Rattle.catalog.specs.Drivers.{Dataset, content_head, Fits}
use Rattle.catalog.specs.Mosaics.{sources_of}
use Rattle.catalog.specs.Heads.{kind_in, dataset_by, dataset_in, resolved}
use Rattle.catalog.specs.declared.faults.Bad.TheVariants as bad
use Rattle.catalog.specs.declared.faults.LimitKind.TheVariants as limits
use Rattle.catalog.specs.declared.faults.WalkFault.{WalkFault}
use Rattle.catalog.specs.declared.faults.WalkFault.TheVariants.{NotRecognized, Malformed, Cycle, TooDeep, Limit}
use Rattle.catalog.specs.declared.faults.WalkFault.TheVariants.{SourceBand, Memory}

-- the number of the first dataset of a name, counted from `at`
abbrev pub number_from : ℕ → List Dataset → List ℕ → Option ℕ
number_from at [] name = None
number_from at (d ∷ ds) name = if bytes_eq d.head.name name then Some at else number_from (suc at) ds name

-- the number of the dataset of a name
abbrev pub dataset_number_in : List Dataset → List ℕ → Option ℕ
dataset_number_in cat name = number_from 0 cat name

-- the dataset of a name
abbrev pub dataset_named : List Dataset → List ℕ → Option Dataset
dataset_named cat name = option_and_then (slice_get cat) (dataset_number_in cat name)

-- the sources of a content, in document order
abbrev pub sources_in : Content → List SourceValue
sources_in (File h) = []
sources_in (Mosaic d) = sources_of d

-- the sources of all mosaics of a catalog
abbrev pub sources_among : List Dataset → ℕ
sources_among cat = sum_by (λ (d : Dataset). length (sources_in d.content)) cat

-- what a walk has met: the datasets in the order in which they were first met, and the number of their sources
pub record Met : Type 0 where
  pub datasets : List Dataset
  pub sources : ℕ

-- the name doesn't stand on the path of mosaics that leads to it
abbrev pub unless_on : List (List ℕ) → List ℕ → Result (Unit {0}) WalkFault
unless_on path name = if is_among path name then Err (Cycle name) else Ok tt

-- there is room for one more mosaic on the path; a file needs none
abbrev pub room_for : ℕ → Kind → List ℕ → Result (Unit {0}) WalkFault
room_for zero kinds.Vrt name = Err (TooDeep name)
room_for zero kinds.Raw name = Ok tt
room_for zero kinds.Dted name = Ok tt
room_for zero kinds.Hgt name = Ok tt
room_for zero kinds.Ascii name = Ok tt
room_for (suc room) kind name = Ok tt

-- one more dataset is within the limit
abbrev pub one_more_in : List Dataset → Result (Unit {0}) WalkFault
one_more_in cat = if nat_lt (length cat) most_datasets then Ok tt else Err (Limit limits.Files (most_datasets + 1))

-- one more source is within the limit
abbrev pub one_more_source : ℕ → Result (Unit {0}) WalkFault
one_more_source sources = if nat_lt sources most_sources then Ok tt else Err (Limit limits.Sources (most_sources + 1))

-- the number of the bands of the dataset of a name
abbrev pub bands_of : Option Dataset → ℕ
bands_of None = 0
bands_of (Some d) = band_count d.head

-- the refusal of a band, counted from 1, that the dataset of a name lacks
abbrev pub unless_no_band : List Dataset → List ℕ → ℕ → Result (Unit {0}) WalkFault
unless_no_band cat name band = if nat_lt (bands_of (dataset_named cat name)) band then Err (SourceBand name band)
    else Ok tt

-- the samples of a band have at most 32 bits
abbrev pub is_narrow_band : Option BandHead → Bool
is_narrow_band None = true
is_narrow_band (Some b) = nat_le (byte_count b.kind) 4

-- a band of the dataset of a name, counted from 1
abbrev pub band_named : Option Dataset → ℕ → Option BandHead
band_named None band = None
band_named (Some d) band = band_at d.head (band - 1)

-- Samples that are given as they are may have any width; others have at most 32 bits, or the mosaic with the name
-- `base`, whose source scales them or has a table for them, isn't one that is read.
abbrev pub unless_wide : List Dataset → List ℕ → List ℕ → ℕ → Bool → Result (Unit {0}) WalkFault
unless_wide cat base name band plain = if plain || is_narrow_band (band_named (dataset_named cat name) band) then Ok tt
    else Err (Malformed base (bad.Vrt vrt.Unsupported))

-- the refusal of a band, counted from 1, that the dataset of a name lacks, or whose samples a source of the mosaic with
-- the name `base` doesn't take
abbrev pub unless_no_samples : List Dataset → List ℕ → List ℕ → ℕ → Bool → Result (Unit {0}) WalkFault
unless_no_samples cat base name band plain =
    unless_no_band cat name band >>= λ there. unless_wide cat base name band plain

-- What is checked of a name that was met whole earlier, on another path: itself, and then what its sources name, in
-- order. `below` checks a name with one mosaic more on the path.
abbrev pub again_sources : (List ℕ → Result (Unit {0}) WalkFault) → List ℕ → List SourceValue →
    Result (Unit {0}) WalkFault
again_sources below base [] = Ok tt
again_sources below base (s ∷ ss) = resolved base s >>= λ name. below name >>= λ checked. again_sources below base ss

-- what is checked again below a dataset that was met whole: each name of its sources
abbrev pub again_below : (List (List ℕ) → List ℕ → Result (Unit {0}) WalkFault) → List (List ℕ) → Option Dataset →
    Result (Unit {0}) WalkFault
again_below below path None = Ok tt
again_below below path (Some d) = again_sources (below (d.head.name ∷ path)) d.head.name (sources_in d.content)

-- what is checked again of a name: its kind, its path, how deep it is, and what lies below it
unfoldable pub again_step : (List (List ℕ) → List ℕ → Result (Unit {0}) WalkFault) → ℕ → List Dataset → List (List ℕ) →
    List ℕ → Result (Unit {0}) WalkFault
again_step below room cat path name = do
  kind ← kind_in name
  free ← unless_on path name
  shallow ← room_for room kind name
  again_below below path (dataset_named cat name)

-- the same, where so many mosaics may still come onto the path
abbrev pub again : ℕ → List Dataset → List (List ℕ) → List ℕ → Result (Unit {0}) WalkFault
again zero cat path name = again_step (λ p n. Ok tt) zero cat path name
again (suc room) cat path name = again_step (λ p n. again room cat p n) (suc room) cat path name

-- How a walk goes on through a source of the mosaic with the name `base`: it is counted, its name is resolved, the walk
-- goes to that name by `visit`, and then its band must be there, with samples that the source takes.
unfoldable pub visit_source : (Met → List ℕ → Result Met WalkFault) → List ℕ → Met → SourceValue → Result Met WalkFault
visit_source visit base met s = do
  counted ← one_more_source met.sources
  name ← resolved base s
  after ← visit (record { datasets = met.datasets; sources = met.sources + 1 }) name
  there ← unless_no_samples after.datasets base name s.band (is_plain s)
  Ok after

-- how a walk goes on through some sources of a mosaic, in order, up to the first refusal
abbrev pub visit_sources : (Met → List ℕ → Result Met WalkFault) → List ℕ → Met → List SourceValue →
    Result Met WalkFault
visit_sources visit base met [] = Ok met
visit_sources visit base met (s ∷ ss) = visit_source visit base met s >>= λ after. visit_sources visit base after ss

-- a name that is met for the first time: its own files are read, then the walk goes through its sources
unfoldable pub first_met : (List (List ℕ) → Met → List ℕ → Result Met WalkFault) → Files → Bool → Kind → List (List ℕ) →
    Met → List ℕ → Result Met WalkFault
first_met below m verify kind path met name = do
  room ← one_more_in met.datasets
  d ← dataset_by kind m verify name
  visit_sources (below (name ∷ path)) name (record {
    datasets = met.datasets ++ d ∷ [];
    sources = met.sources;
  }) (sources_in d.content)

-- a name that was met whole isn't read again
abbrev pub met_again : ℕ → List (List ℕ) → Met → List ℕ → Result Met WalkFault
met_again room path met name = again room met.datasets path name >>= λ checked. Ok met

-- how a walk goes on with a name: as met again where it has a number, else as met for the first time
abbrev pub met_or_first : (List (List ℕ) → Met → List ℕ → Result Met WalkFault) → Files → Bool → ℕ → Kind →
    List (List ℕ) → Met → List ℕ → Option ℕ → Result Met WalkFault
met_or_first below m verify room kind path met name (Some id) = met_again room path met name
met_or_first below m verify room kind path met name None = first_met below m verify kind path met name

-- the visit of a name, where `below` visits a name with one mosaic more on the path
unfoldable pub visit_step : (List (List ℕ) → Met → List ℕ → Result Met WalkFault) → Files → Bool → ℕ → List (List ℕ) →
    Met → List ℕ → Result Met WalkFault
visit_step below m verify room path met name = do
  kind ← kind_in name
  free ← unless_on path name
  shallow ← room_for room kind name
  met_or_first below m verify room kind path met name (dataset_number_in met.datasets name)

-- The walk's visit of a name, where `path` has the mosaics that lead to it, the last one first, and so many more may
-- come onto it: the first refusal, or what was met then. It takes every path.
abbrev pub visit : Files → Bool → ℕ → List (List ℕ) → Met → List ℕ → Result Met WalkFault
visit m verify zero path met name = visit_step (λ p a n. Ok a) m verify zero path met name
visit m verify (suc room) path met name =
    visit_step (λ p a n. visit m verify room p a n) m verify (suc room) path met name

-- what a walk has met before it starts
abbrev pub met_at_first : List Dataset → Met
met_at_first cat = record { datasets = cat; sources = sources_among cat }

-- The walk from a name, where the datasets of a catalog were met earlier: the first refusal, or the datasets in the
-- order in which they are first met.
unfoldable pub walked : Files → Bool → List Dataset → List ℕ → Result (List Dataset) WalkFault
walked m verify cat name = visit m verify most_nestings [] (met_at_first cat) name >>= λ met. Ok met.datasets

-- a dataset's name is of its kind, and its head is what its content says
pub record IsDataset (d : Dataset) : Type 0 where
  pub kind : kind_in d.head.name ≡ Ok d.head.kind
  pub head : d.head ≡ content_head d.head.name d.content
  pub valid : IsDatasetHead d.head
  pub fits : Fits d.head.name d.content d.length

-- each dataset is found under its name
abbrev pub IsApart : List Dataset → Type 0
IsApart cat = (id : ℕ) (d : Dataset) → slice_get cat id ≡ Some d → dataset_number_in cat d.head.name ≡ Some id

-- a source names a dataset of the catalog, which has its band, with samples that it takes, and is one of those that are
-- asked for
pub record HasMember (IsAsked : Dataset → Type 0) (cat : List Dataset) (base : List ℕ) (s : SourceValue) : Type 0 where
  pub name : List ℕ
  pub dataset : Dataset
  pub resolves : resolved base s ≡ Ok name
  pub named : dataset_named cat name ≡ Some dataset
  pub band : s.band ≤ band_count dataset.head
  pub takes : is_plain s || is_narrow_band (band_at dataset.head (s.band - 1)) ≡ true
  pub asked : IsAsked dataset

-- the content isn't a mosaic's
abbrev pub IsNoMosaic : Content → Type 0
IsNoMosaic (File h) = Unit {0}
IsNoMosaic (Mosaic d) = ⊥

-- each source names a dataset of the catalog, and so on through at most so many nestings
abbrev pub IsNested : ℕ → List Dataset → Dataset → Type 0
IsNested zero cat d = IsNoMosaic d.content
IsNested (suc room) cat d = All (HasMember (λ t. IsNested room cat t) cat d.head.name) (sources_in d.content)

-- what every catalog keeps
pub record IsCatalog (cat : List Dataset) : Type 0 where
  pub each : All IsDataset cat
  pub few : length cat ≤ most_datasets
  pub sources : sources_among cat ≤ most_sources
  pub apart : IsApart cat
  pub nested : All (λ d. IsNested most_nestings cat d) cat

-- the datasets are what the files of a folder say
abbrev pub IsWalked : Files → List Dataset → Type 0
IsWalked m cat = All (λ d. dataset_in m false d.head.name ≡ Ok d) cat

-- a name that is refused for its kind tells none
abbrev pub TellsKinds : {T : Type 0} → Result T WalkFault → Type 0
TellsKinds result = (n : List ℕ) → result ≡ Err (NotRecognized n) → kind_in n ≡ Err (NotRecognized n)

-- A walk from a name that tells no kind is refused so or for want of memory; what is refused so tells no kind; and a
-- walk from the name of a file isn't refused so.
pub record WalksUnknown {T : Type 0} (name : List ℕ) (result : Result T WalkFault) : Type 0 where
  pub always : (fault : WalkFault) → kind_in name ≡ Err fault → (result ≡ Err fault) ⊎ (result ≡ Err Memory)
  pub only : TellsKinds result
  pub file : (k : Kind) (n : List ℕ) → kind_in name ≡ Ok k → (k ≡ kinds.Vrt → ⊥) → result ≡ Err (NotRecognized n) → ⊥
