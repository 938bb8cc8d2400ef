-- How the datasets of a catalog hang together: what sources name, and how deep mosaics are nested.
use Rattle.std.specs.Prelude.{ℕ, zero, suc, max, List, [], ◌∷◌, slice_get, Option, option_map, option_and_then}
use Rattle.std.specs.Option.{unwrap_or}
use Rattle.lists_and_answers.specs.Options.{◌>>=◌}
use Rattle.vrt_profile.specs.Values.{SourceValue}
use Rattle.catalog.specs.declared.driver.Content.{Content}
use Rattle.catalog.specs.declared.driver.Content.TheVariants.{File, Mosaic}
use Rattle.catalog.specs.Dataset.{most_nestings}
use Rattle.catalog.specs.Drivers.{Dataset, document_of}
use Rattle.catalog.specs.Mosaics.{sources_of, source_name}
use Rattle.catalog.specs.Walk.{dataset_number_in, dataset_named}

-- the number of the dataset that a source of the mosaic with the name `base` names
abbrev pub member_in : List Dataset → List ℕ → SourceValue → Option ℕ
member_in cat base s = option_and_then (dataset_number_in cat) (source_name base s)

-- a source of a dataset, by its band and its number in the band
abbrev pub source_at : Dataset → ℕ → ℕ → Option SourceValue
source_at d band source = document_of d.content >>= λ doc. slice_get doc.bands band >>= λ b. slice_get b.sources source

-- the number of the dataset that this source names
abbrev pub member_at : List Dataset → Dataset → ℕ → ℕ → Option ℕ
member_at cat d band source = source_at d band source >>= λ s. member_in cat d.head.name s

-- the greatest of what a function gives for the datasets that sources name, or 0
abbrev pub greatest : (Dataset → ℕ) → List Dataset → List ℕ → List SourceValue → ℕ
greatest f cat base [] = 0
greatest f cat base (s ∷ ss) = max (unwrap_or (option_map f (source_name base s >>= λ name. dataset_named cat name)) 0)
    (greatest f cat base ss)

-- the height of a dataset by its content, where `below` gives the heights of those that its sources name
abbrev pub height_step : (Dataset → ℕ) → List Dataset → List ℕ → Content → ℕ
height_step below cat name (File h) = 0
height_step below cat name (Mosaic doc) = suc (greatest below cat name (sources_of doc))

-- how deep a dataset is nested: 0 for a file, 1 for a mosaic without sources, else one more than the greatest of those
-- that its sources name; counted through at most so many nestings
abbrev pub height_within : ℕ → List Dataset → Dataset → ℕ
height_within zero cat d = 0
height_within (suc room) cat d = height_step (λ t. height_within room cat t) cat d.head.name d.content

-- the height of a dataset of a catalog, whose mosaics are nested at most 16 deep
unfoldable pub height_of : List Dataset → Dataset → ℕ
height_of cat d = height_within most_nestings cat d
