-- The names of the files that a mosaic's pixel is covered by.
use Rattle.std.specs.Prelude.{ℕ, ◌-◌, List, [], fold, slice_get, unwrap_or, Option, Some, None}
use Rattle.std.specs.Prelude.{option_map, option_and_then}
use Rattle.lists_and_answers.specs.Options.{◌>>=◌}
use Rattle.lists_and_answers.specs.Lists.{with_name}
use Rattle.geotransform.specs.declared.types.Size.{Size}
use Rattle.vrt_profile.specs.Values.{BandValue, SourceValue}
use Rattle.vrt_profile.specs.Cover.{cover_of}
use Rattle.catalog.specs.Drivers.{Dataset, document_of}
use Rattle.catalog.specs.Links.{member_in}

-- a name that was found, behind others, unless it is among them
abbrev pub with_found : List (List ℕ) → Option (List ℕ) → List (List ℕ)
with_found names None = names
with_found names (Some name) = with_name names name

-- the name of a source's dataset, of this size, where the source covers the pixel of its mosaic, of the size `mosaic`
abbrev pub covering_name : SourceValue → Size → List ℕ → Size → ℕ → ℕ → Option (List ℕ)
covering_name s mosaic name size x y = option_map (λ place. name) (cover_of s mosaic size x y)

-- the sources of a band of a dataset, counted from 0; a file has none
abbrev pub sources_at : Dataset → ℕ → List SourceValue
sources_at d band = unwrap_or (option_map (λ (b : BandValue). b.sources)
    (document_of d.content >>= λ doc. slice_get doc.bands band)) []

-- the name of the dataset of a catalog that a source of a mosaic names, where the source covers the pixel
abbrev pub covering_in : List Dataset → Dataset → ℕ → ℕ → SourceValue → Option (List ℕ)
covering_in cat d x y s = option_and_then (slice_get cat) (member_in cat d.head.name s) >>= λ t.
    covering_name s d.head.size t.head.name t.head.size x y

-- these names, and behind them those of the datasets that cover a pixel of a band by its sources, each that isn't among
-- them yet
unfoldable pub with_covering : List Dataset → Dataset → ℕ → ℕ → ℕ → List (List ℕ) → List (List ℕ)
with_covering cat d band x y names = fold (λ ns s. with_found ns (covering_in cat d x y s)) names (sources_at d band)

-- the names of the datasets that cover a pixel of these bands, counted from 1, by the mosaic's own sources, each once
unfoldable pub covering_files : List Dataset → Dataset → ℕ → ℕ → List ℕ → List (List ℕ)
covering_files cat d x y bands = fold (λ ns band. with_covering cat d (band - 1) x y ns) [] bands
