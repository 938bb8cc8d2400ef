-- Documents that are built: rectangles of whole pixels, and sources that change no pixel.
use Rattle.std.specs.Prelude.{ℕ, ℤ, pos, ◌*ℤ◌, ◌≤◌, ◌<ℤ◌, Bool, List, Option, Some, None, is_some, unsigned_abs}
use Rattle.vrt_profile.specs.Values.{million, trillion, Rectangle, SourceValue}
use Rattle.geotransform.specs.Limits.{farthest}

-- a rectangle of whole pixels
abbrev pub pixel_rectangle : ℤ → ℤ → ℤ → ℤ → Rectangle
pixel_rectangle x y w h = record {
  x = pos million *ℤ x;
  y = pos million *ℤ y;
  w = pos million *ℤ w;
  h = pos million *ℤ h;
}

-- An offset in whole pixels is within its limits, and so is a side.
abbrev pub IsPixelOffset : ℤ → Type 0
IsPixelOffset v = unsigned_abs v ≤ farthest

pub record IsPixelSide (v : ℤ) : Type 0 where
  pub some : pos 0 <ℤ v
  pub within : IsPixelOffset v

-- A source that shows a rectangle of a band of a file in a rectangle of the mosaic, and changes no pixel: it is complex
-- where it has a NODATA, and only then. The file is told by whether its text is relative, and the text.
abbrev pub plain_source : Bool × List ℕ → ℕ → Rectangle → Rectangle → Option ℤ → SourceValue
plain_source file band src dst nodata = record {
  complex = is_some nodata;
  relative = file.0;
  file = file.1;
  band = band;
  src = Some src;
  dst = Some dst;
  nodata = nodata;
  offset = pos 0;
  ratio = pos trillion;
  lut = None;
}
