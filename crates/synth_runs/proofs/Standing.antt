-- What stands under the names of a run from a number, before each of its parts.
use Rattle.std.specs.Prelude.{ℕ, pos, ◌≡◌, ◌<◌, ◌*◌, ◌/◌, ◌%◌, List, [], ◌∷◌, length, map, Some, None}
use Rattle.std.specs.FinMap.{get}
use Rattle.outside.specs.Outside.{Files}
use Rattle.outside.specs.Names.{header_of}
use Rattle.geotransform.specs.declared.types.PixelType.TheVariants.{Int16}
use Rattle.esri_hdr.specs.Text.{hdr_text}
use Rattle.esri_hdr.specs.declared.header_parts.Layout.TheVariants.{Bil}
use Rattle.vrt_profile.specs.Values.{SourceValue, BandValue, DocumentValue}
use Rattle.vrt_profile.specs.Built.{pixel_rectangle, plain_source}
use Rattle.vrt_profile.specs.Cover.{whole}
use Rattle.vrt_profile.specs.Resolve.{related}
use Rattle.vrt_writing.specs.Spelled.{spelled}
use Rattle.catalog.specs.Dataset.{DatasetHead}
use Rattle.catalog.specs.Drivers.{Dataset, dataset_of}
use Rattle.catalog.specs.declared.driver.Content.TheVariants.{File, Mosaic}
use Rattle.catalog.specs.declared.driver.DriverHead.TheVariants as drivers
use Rattle.translate_plan.specs.Plan.{Planned}
use Rattle.translate_plan.specs.declared.options.Driver.TheVariants.{EHdr}
use Rattle.synthetic_rasters.specs.Names.{tile_name, inner_name, outer_name}
use Rattle.synthetic_rasters.specs.Outer.{outer_document, outer_place}
use Rattle.synthetic_rasters.specs.Tiles.{tile_head, tile_data, nodata}

-- the files of the tiles of this side
pub record TilesStand (n : ℕ) (m : Files) : Type 0 where
  pub samples : (t : ℕ) → t < 4 → get m (tile_name t) ≡ Some (tile_data n t)
  pub header : (t : ℕ) → t < 4 → get m (header_of (tile_name t)) ≡ Some (hdr_text (tile_head n t))

-- the dataset of a tile, and the heads of all
abbrev pub tile_dataset : ℕ → ℕ → Dataset
tile_dataset n t = dataset_of (tile_name t) (record { content = File (drivers.Raw (tile_head n t)); length = length (tile_data n t) })

abbrev pub tile_heads : ℕ → List DatasetHead
tile_heads n = map (λ t. (tile_dataset n t).head) (0 ∷ 1 ∷ 2 ∷ 3 ∷ [])

-- the mosaic of the tiles
abbrev pub tile_source : ℕ → ℕ → SourceValue
tile_source n t = plain_source (related inner_name (tile_name t)) 1 (whole (record { w = n; h = n })) (pixel_rectangle (pos (t % 2 * n)) (pos (t / 2 * n)) (pos n) (pos n)) (Some nodata)

abbrev pub tile_bands : ℕ → List BandValue
tile_bands n = record { kind = Int16; nodata = Some nodata; sources = map (tile_source n) (0 ∷ 1 ∷ 2 ∷ 3 ∷ []) } ∷ []

unfoldable pub inner_document : ℕ → DocumentValue
inner_document n = record { size = record { w = 2 * n; h = 2 * n }; srs = None; geo = Some outer_place; bands = tile_bands n }

-- the files of the tiles, their mosaic and the outer mosaic
pub record MosaicsStand (n : ℕ) (m : Files) : Type 0 where
  pub tiles : TilesStand n m
  pub inner : get m inner_name ≡ Some (spelled (inner_document n))
  pub outer : get m outer_name ≡ Some (spelled (outer_document n))

-- the datasets of the mosaics
abbrev pub inner_dataset : ℕ → Dataset
inner_dataset n = dataset_of inner_name (record { content = Mosaic (inner_document n); length = length (spelled (inner_document n)) })

abbrev pub outer_dataset : ℕ → Dataset
outer_dataset n = dataset_of outer_name (record { content = Mosaic (outer_document n); length = length (spelled (outer_document n)) })

-- what is planned for the copy of the outer mosaic
abbrev pub copy_plan : ℕ → Planned
copy_plan n = record { driver = EHdr; layout = Bil; bands = record { source = 0; kind = Int16; nodata = Some nodata } ∷ []; size = record { w = 2 * n; h = 2 * n }; x = pos 0; y = pos 0; window = record { w = 2 * n; h = 2 * n }; geo = Some outer_place }
