-- The outer mosaic, which shows a mosaic of the tiles, and a part of it once more.
use Rattle.std.specs.Prelude.{ℕ, pos, neg_ℤ, ◌*◌, List, [], ◌∷◌, Some, None}
use Rattle.geotransform.specs.Geo.{Transform}
use Rattle.geotransform.specs.Print.{unit}
use Rattle.geotransform.specs.declared.types.PixelType.TheVariants.{Int16}
use Rattle.vrt_profile.specs.Values.{Rectangle, SourceValue, BandValue, DocumentValue, trillion}
use Rattle.vrt_profile.specs.Resolve.{related}
use Rattle.vrt_profile.specs.Built.{pixel_rectangle, plain_source}
use Rattle.synthetic_rasters.specs.Names.{inner_name, outer_name}
use Rattle.synthetic_rasters.specs.Tiles.{nodata}

-- a source that adds so much to each pixel, and is the same otherwise
abbrev pub adding : ℕ → SourceValue → SourceValue
adding more s = record {
  complex = s.complex;
  relative = s.relative;
  file = s.file;
  band = s.band;
  src = s.src;
  dst = s.dst;
  nodata = s.nodata;
  offset = pos (more * trillion);
  ratio = s.ratio;
  lut = s.lut;
}

-- the source that shows the square of this side in the upper left corner of the inner mosaic in another place
abbrev pub inner_source : ℕ → Rectangle → SourceValue
inner_source side dst = plain_source (related outer_name inner_name) 1
    (pixel_rectangle (pos 0) (pos 0) (pos side) (pos side)) dst (Some nodata)

-- The sources of the outer mosaic of tiles with side n: the whole of the inner mosaic, and over its lower right quarter
-- the upper left one with 1000 added.
abbrev pub outer_sources : ℕ → List SourceValue
outer_sources n = inner_source (2 * n) (pixel_rectangle (pos 0) (pos 0) (pos (2 * n)) (pos (2 * n)))
    ∷ adding 1000 (inner_source n (pixel_rectangle (pos n) (pos n) (pos n) (pos n)))
    ∷ []

-- the place of a mosaic of the tiles
abbrev pub outer_place : Transform
outer_place = record { ox = pos 0; oy = pos 0; dx = pos unit; dy = neg_ℤ (pos unit) }

-- its one band
abbrev pub outer_bands : ℕ → List BandValue
outer_bands n = record { kind = Int16; nodata = Some nodata; sources = outer_sources n } ∷ []

-- the outer mosaic: the size, the place, the type and the NODATA are those of the inner one
unfoldable pub outer_document : ℕ → DocumentValue
outer_document n = record {
  size = record { w = 2 * n; h = 2 * n };
  srs = None;
  geo = Some outer_place;
  bands = outer_bands n;
}
