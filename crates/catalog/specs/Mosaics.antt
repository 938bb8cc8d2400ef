-- What the document of a mosaic says of its dataset.
use Rattle.std.specs.Prelude.{ℕ, not, List, [], ◌∷◌, length, map, flat_map, nat_lt, bytes_eq, Option}
use Rattle.std.specs.Prelude.{Some, None, if◌then◌else◌}
use Rattle.std.specs.List.{filter, filter_map}
use Rattle.geotransform.specs.declared.types.Size.{Size}
use Rattle.outside.specs.Paths.{normal, longest_name}
use Rattle.vrt_profile.specs.Values.{DocumentValue, BandValue, SourceValue}
use Rattle.vrt_profile.specs.Resolve.{resolved_text}
use Rattle.catalog.specs.declared.kind.BandHead.{BandHead}
use Rattle.catalog.specs.declared.kind.Kind.TheVariants as kinds
use Rattle.catalog.specs.Dataset.{DatasetHead, block_of}

-- the sources of all bands, in document order
abbrev pub sources_of : DocumentValue → List SourceValue
sources_of d = flat_map (λ (b : BandValue). b.sources) d.bands

-- the name that a text stands for, if it has at most 4,096 bytes
abbrev pub name_of_text : List ℕ → Option (List ℕ)
name_of_text text = if nat_lt longest_name (length text) then None else Some (normal text)

-- the name of a source of the mosaic with the name `base`, if it is within the limit
abbrev pub source_name : List ℕ → SourceValue → Option (List ℕ)
source_name base s = name_of_text (resolved_text base s)

-- each name where it first stands
abbrev pub distinct : List (List ℕ) → List (List ℕ)
distinct [] = []
distinct (n ∷ ns) = n ∷ filter (λ k. not (bytes_eq n k)) (distinct ns)

-- the distinct names of the sources, in document order
abbrev pub source_names : List ℕ → DocumentValue → List (List ℕ)
source_names base d = distinct (filter_map (source_name base) (sources_of d))

-- a band of a mosaic
abbrev pub mosaic_band : Size → BandValue → BandHead
mosaic_band size b = record { kind = b.kind; nodata = b.nodata; block = block_of kinds.Vrt size }

-- what a document under a name says of the dataset: its files are its own and those of its sources
abbrev pub mosaic_head : List ℕ → DocumentValue → DatasetHead
mosaic_head name d = record {
  name = name;
  kind = kinds.Vrt;
  size = d.size;
  geo = d.geo;
  srs = d.srs;
  bands = map (mosaic_band d.size) d.bands;
  files = name ∷ source_names name d;
}
