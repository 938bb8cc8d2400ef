-- The pixels of datasets, one at a time.
use Rattle.std.specs.Prelude.{◌≡◌, ◌≤◌, ℕ, ℤ, pos, zero, suc, ◌-◌, false, true, ◌||◌, List, [], slice_get, Option, Some}
use Rattle.std.specs.Prelude.{None, option_map, Result, Ok, Err}
use Rattle.std.specs.Option.{unwrap_or}
use Rattle.std.specs.FinMap.{get}
use Rattle.lists_and_answers.specs.Options.{◌>>=◌}
use Rattle.geotransform.specs.declared.types.Size.{Size}
use Rattle.outside.specs.Outside.{Files}
use Rattle.interleaved_raw.specs.Raw.{raw_at}
use Rattle.dted_records.specs.Records.{dted_at}
use Rattle.hgt_tiles.specs.Samples.{hgt_at}
use Rattle.ascii_grid.specs.Grid.{ascii_at, grid_head}
use Rattle.vrt_profile.specs.Values.{BandValue, SourceValue}
use Rattle.vrt_profile.specs.Value.{is_plain, given_of, mosaic_pixel}
use Rattle.catalog.specs.Dataset.{band_at, band_count, most_nestings}
use Rattle.catalog.specs.Drivers.{Dataset}
use Rattle.catalog.specs.Mosaics.{source_name}
use Rattle.catalog.specs.Heads.{dataset_in}
use Rattle.catalog.specs.Walk.{dataset_named, is_narrow_band}
use Rattle.catalog.specs.Links.{member_in, source_at, member_at}
use Rattle.catalog.specs.declared.driver.Content.{Content}
use Rattle.catalog.specs.declared.driver.Content.TheVariants.{File, Mosaic}
use Rattle.catalog.specs.declared.driver.DriverHead.{DriverHead}
use Rattle.catalog.specs.declared.driver.DriverHead.TheVariants.{Raw, Dted, Hgt, Ascii}
use Rattle.catalog.specs.declared.faults.WalkFault.{WalkFault}

-- the sample that a file holds in a band, a column and a line
abbrev pub sample_in : DriverHead → List ℕ → ℕ → ℕ → ℕ → ℤ
sample_in (Raw h) bytes band x y = raw_at h bytes band x y
sample_in (Dted h) bytes band x y = dted_at h bytes x y
sample_in (Hgt side) bytes band x y = hgt_at side bytes x y
sample_in (Ascii h) bytes band x y = ascii_at bytes x y

-- the head of a grid is that of its bytes; what other heads say of a sample is said of any bytes
abbrev pub IsHeadOf : DriverHead → List ℕ → Type 0
IsHeadOf (Raw h) bytes = Unit {0}
IsHeadOf (Dted h) bytes = Unit {0}
IsHeadOf (Hgt side) bytes = Unit {0}
IsHeadOf (Ascii h) bytes = grid_head bytes ≡ Ok h

-- the pixel of a file under a name in a band, a column and a line
abbrev pub file_pixel : Files → List ℕ → DriverHead → ℕ → ℕ → ℕ → ℤ
file_pixel m name h band x y = sample_in h (unwrap_or (get m name) []) band x y

-- how a dataset is found by its name
abbrev pub Lookup : Type 0
Lookup = List ℕ → Option Dataset

-- the pixels of the dataset of each name: in a band, counted from 0, a column and a line
abbrev pub Images : Type 0
Images = List ℕ → ℕ → ℕ → ℕ → ℤ

-- the size of a dataset that is found
abbrev pub size_of : Option Dataset → Size
size_of None = record { w = 0; h = 0 }
size_of (Some d) = d.head.size

-- the name of the dataset of a source
abbrev pub name_of_source : List ℕ → SourceValue → List ℕ
name_of_source base s = unwrap_or (source_name base s) []

-- What a source shows at a pixel of its mosaic, which has the name `base` and this size, by the datasets that are found
-- and their pixels.
abbrev pub shown : Lookup → Images → List ℕ → Size → SourceValue → ℕ → ℕ → Option ℤ
shown look images base size s x y =
    given_of s size (size_of (look (name_of_source base s))) (images (name_of_source base s) (s.band - 1)) x y

-- the pixel of a band of the mosaic with the name `base`, by the pixels of the datasets that its sources name
abbrev pub band_pixel : Lookup → Images → List ℕ → Size → Option BandValue → ℕ → ℕ → ℤ
band_pixel look images base size None x y = pos 0
band_pixel look images base size (Some b) x y = mosaic_pixel b (shown look images base size) x y

-- the pixel of a dataset by its content
abbrev pub content_pixel : Lookup → Images → Files → List ℕ → Content → ℕ → ℕ → ℕ → ℤ
content_pixel look images m name (File h) band x y = file_pixel m name h band x y
content_pixel look images m name (Mosaic d) band x y = band_pixel look images name d.size (slice_get d.bands band) x y

-- the pixel of a dataset, and 0 where there is none, by the pixels of the names below
abbrev pub pixel_step : Lookup → Images → Files → Option Dataset → ℕ → ℕ → ℕ → ℤ
pixel_step look images m None band x y = pos 0
pixel_step look images m (Some d) band x y = content_pixel look images m d.head.name d.content band x y

-- the pixels of the dataset of a name, through fewer mosaics than this number
abbrev pub pixel_within : Lookup → Files → ℕ → Images
pixel_within look m zero name band x y = pos 0
pixel_within look m (suc n) name band x y = pixel_step look (pixel_within look m n) m (look name) band x y

-- the dataset that the files of a folder tell under a name
abbrev pub told : Result Dataset WalkFault → Option Dataset
told (Ok d) = Some d
told (Err e) = None

-- the dataset that stands under a name in a folder
abbrev pub found_in_folder : Files → Lookup
found_in_folder m name = told (dataset_in m false name)

-- The pixel of the dataset of a name, by the files of a folder alone. A walk accepts at most 16 mosaics on a path,
-- below which a file stands.
unfoldable pub pixel_of_name : Files → Images
pixel_of_name m name band x y = pixel_within (found_in_folder m) m (suc most_nestings) name band x y

-- The pixel of the dataset of a number in a catalog.
unfoldable pub pixel_of : Files → List Dataset → ℕ → ℕ → ℕ → ℕ → ℤ
pixel_of m cat id band x y =
    pixel_step (dataset_named cat) (pixel_within (dataset_named cat) m most_nestings) m (slice_get cat id) band x y

-- The size of the dataset of a catalog that a source of a dataset names.
abbrev pub member_size : List Dataset → Dataset → SourceValue → Size
member_size cat d s = size_of (member_in cat d.head.name s >>= λ t. slice_get cat t)

-- The pixel of the dataset that a source names, in the band that the source takes.
abbrev pub member_pixel : Files → List Dataset → Dataset → SourceValue → ℕ → ℕ → ℤ
member_pixel m cat d s x y =
    unwrap_or (option_map (λ t. pixel_of m cat t (s.band - 1) x y) (member_in cat d.head.name s)) (pos 0)

-- what a source of a band names: a dataset of the catalog that has the source's band, with samples that it takes
pub record TakesMember (cat : List Dataset) (d : Dataset) (band source : ℕ) (s : SourceValue) : Type 0 where
  pub member : ℕ
  pub dataset : Dataset
  pub is : member_at cat d band source ≡ Some member
  pub there : slice_get cat member ≡ Some dataset
  pub has_band : s.band ≤ band_count dataset.head
  pub takes : is_plain s || is_narrow_band (band_at dataset.head (s.band - 1)) ≡ true

-- for each source of a band, this is the size of the dataset that it names, and these are the pixels of its band
abbrev pub AreOfMembers : Files → List Dataset → Dataset → ℕ → (SourceValue → Size) → (SourceValue → ℕ → ℕ → ℤ) → Type 0
AreOfMembers m cat d band sizes pixels = (source t : ℕ) (s : SourceValue) (e : Dataset) →
    source_at d band source ≡ Some s → member_in cat d.head.name s ≡ Some t → slice_get cat t ≡ Some e
    → (sizes s ≡ e.head.size) × ((x y : ℕ) → pixels s x y ≡ pixel_of m cat t (s.band - 1) x y)
