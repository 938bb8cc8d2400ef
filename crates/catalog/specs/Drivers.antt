-- What the head of a file says of its dataset.
use Rattle.std.specs.Prelude.{ℕ, ℤ, ◌≡◌, ◌≤◌, List, [], ◌∷◌, replicate, true, Option, Some, None, option_map}
use Rattle.std.specs.Prelude.{negsuc}
use Rattle.geotransform.specs.declared.types.Size.{Size}
use Rattle.geotransform.specs.Geo.{Transform}
use Rattle.geotransform.specs.declared.types.PixelType.TheVariants.{Int16, Int32}
use Rattle.outside.specs.Names.{last_part, header_of, extension_of, is_raw}
use Rattle.esri_hdr.specs.Head.{Head, IsHead, geotransform_of}
use Rattle.interleaved_raw.specs.Raw as raw
use Rattle.dted_records.specs.Head as dted
use Rattle.dted_records.specs.Places as dted_places
use Rattle.hgt_tiles.specs.Names as hgt_names
use Rattle.hgt_tiles.specs.Places as hgt_places
use Rattle.ascii_grid.specs.Grid as ascii
use Rattle.vrt_profile.specs.Values.{DocumentValue, IsDocument, longest_document}
use Rattle.catalog.specs.declared.kind.BandHead.{BandHead}
use Rattle.catalog.specs.declared.kind.Kind.TheVariants as kinds
use Rattle.catalog.specs.declared.driver.Found.{Found}
use Rattle.catalog.specs.declared.driver.DriverHead.{DriverHead}
use Rattle.catalog.specs.declared.driver.DriverHead.TheVariants.{Raw, Dted, Hgt, Ascii}
use Rattle.catalog.specs.declared.driver.Content.{Content}
use Rattle.catalog.specs.declared.driver.Content.TheVariants.{File, Mosaic}
use Rattle.catalog.specs.Mosaics.{mosaic_head}
use Rattle.catalog.specs.Dataset.{DatasetHead, block_of}

-- a band of raw data
abbrev pub raw_band : Head → BandHead
raw_band h = record { kind = h.kind; nodata = h.nodata; block = block_of kinds.Raw h.size }

-- what the head of raw data under a name says of the dataset
abbrev pub raw_dataset_head : List ℕ → Head → DatasetHead
raw_dataset_head name h = record {
  name = name;
  kind = kinds.Raw;
  size = h.size;
  geo = geotransform_of h;
  srs = None;
  bands = replicate h.bands
      (raw_band h);
  files = name ∷ header_of name ∷ [];
}

-- the columns and lines of a cell: its lines of longitude and their points
abbrev pub cell_size : dted.Head → Size
cell_size h = record { w = h.lines; h = h.points }

-- the null elevation of DTED
abbrev pub null_elevation : ℤ
null_elevation = negsuc 32766

-- the band of a cell
abbrev pub dted_band : dted.Head → BandHead
dted_band h = record { kind = Int16; nodata = Some null_elevation; block = block_of kinds.Dted (cell_size h) }

-- what the head of a cell under a name says of the dataset
abbrev pub dted_dataset_head : List ℕ → dted.Head → DatasetHead
dted_dataset_head name h = record {
  name = name;
  kind = kinds.Dted;
  size = cell_size h;
  geo = Some (dted_places.placed h);
  srs = None;
  bands = dted_band
      h ∷ [];
  files = name ∷ [];
}

-- the columns and lines of a tile
abbrev pub tile_size : ℕ → Size
tile_size side = record { w = side; h = side }

-- the NODATA of a tile
abbrev pub void_sample : ℤ
void_sample = negsuc 32767

-- the band of a tile
abbrev pub hgt_band : ℕ → BandHead
hgt_band side = record { kind = Int16; nodata = Some void_sample; block = block_of kinds.Hgt (tile_size side) }

-- where the name of a tile places its pixels
abbrev pub tile_place : List ℕ → ℕ → Option Transform
tile_place name side = option_map (λ p. hgt_places.tile_transform p side) (hgt_names.corner_of (last_part name))

-- what the name and the side of a tile say of the dataset
abbrev pub hgt_dataset_head : List ℕ → ℕ → DatasetHead
hgt_dataset_head name side = record {
  name = name;
  kind = kinds.Hgt;
  size = tile_size side;
  geo = tile_place name side;
  srs = None;
  bands = hgt_band side
      ∷ [];
  files = name ∷ [];
}

-- the band of a grid
abbrev pub ascii_band : ascii.Head → BandHead
ascii_band h = record { kind = Int32; nodata = h.nodata; block = block_of kinds.Ascii h.size }

-- what the head of a grid under a name says of the dataset
abbrev pub ascii_dataset_head : List ℕ → ascii.Head → DatasetHead
ascii_dataset_head name h = record {
  name = name;
  kind = kinds.Ascii;
  size = h.size;
  geo = Some h.geo;
  srs = None;
  bands = ascii_band h ∷ [];
  files = name ∷ [];
}

-- what the head of the file under a name says of the dataset
abbrev pub head_told : List ℕ → DriverHead → DatasetHead
head_told name (Raw h) = raw_dataset_head name h
head_told name (Dted h) = dted_dataset_head name h
head_told name (Hgt side) = hgt_dataset_head name side
head_told name (Ascii h) = ascii_dataset_head name h

-- what the content of a dataset under a name says of it
abbrev pub content_head : List ℕ → Content → DatasetHead
content_head name (File h) = head_told name h
content_head name (Mosaic d) = mosaic_head name d

-- the head of the data, where it is a file
abbrev pub driver_of : Content → Option DriverHead
driver_of (File h) = Some h
driver_of (Mosaic d) = None

-- the document, where it is a mosaic
abbrev pub document_of : Content → Option DocumentValue
document_of (File h) = None
document_of (Mosaic d) = Some d

-- the name is one of the kind of the head of its data, which keeps its rules
abbrev pub IsOfKind : List ℕ → DriverHead → Type 0
IsOfKind name (Raw h) = IsHead h × (is_raw (extension_of name) ≡ true)
IsOfKind name (Dted h) = dted.IsHead h
IsOfKind name (Hgt side) = ((p : hgt_names.Place) × (hgt_names.corner_of (last_part name) ≡ Some p)) ×
    hgt_places.IsSide side
IsOfKind name (Ascii h) = ascii.IsHead h

-- a file has as many bytes as the head of its data asks, and the rows of a grid stand in it one behind the other
abbrev pub IsLongEnough : DriverHead → ℕ → Type 0
IsLongEnough (Raw h) len = raw.needed_of h ≤ len
IsLongEnough (Dted h) len = dted_places.needed_of h ≤ len
IsLongEnough (Hgt side) len = hgt_places.side_of_length len ≡ Some side
IsLongEnough (Ascii h) len = ascii.AreRising 0 len h.rows

-- the name and the length of a file are those that the head of its data asks
pub record FileFits (name : List ℕ) (driver : DriverHead) (len : ℕ) : Type 0 where
  pub kind : IsOfKind name driver
  pub long : IsLongEnough driver len

-- a document keeps its rules, and its length is within the limit
pub record DocumentFits (d : DocumentValue) (len : ℕ) : Type 0 where
  pub rules : IsDocument d
  pub within : len ≤ longest_document

-- the name and the length of a file are those that its content asks
abbrev pub Fits : List ℕ → Content → ℕ → Type 0
Fits name (File h) len = FileFits name h len
Fits name (Mosaic d) len = DocumentFits d len

-- a dataset of a catalog: its head, its content, and the length of the file that has its name
pub record Dataset : Type 0 where
  pub head : DatasetHead
  pub content : Content
  pub length : ℕ

-- the dataset of a name by what was found in its files
abbrev pub dataset_of : List ℕ → Found → Dataset
dataset_of name found = record {
  head = content_head name found.content;
  content = found.content;
  length = found.length;
}
