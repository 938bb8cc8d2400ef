-- Where samples of a line of a file stand, one by one.
use Rattle.std.specs.Prelude.{ℕ, ◌<◌, ◌+◌, ◌*◌, Bool, true, if◌then◌else◌, ℤ, map, List, None, ◌≡◌, ◌≤◌, get_or, pos}
use Rattle.std.specs.Prelude.{length, take, drop}
use Rattle.std.specs.List.{range_with_len}
use Rattle.geotransform.specs.declared.types.PixelType.TheVariants.{Int16}
use Rattle.esri_hdr.specs.Head.{Head, sample_len}
use Rattle.esri_hdr.specs.declared.header_parts.Layout.TheVariants.{Bsq}
use Rattle.write_back.specs.declared.forms.Writer.{Writer}
use Rattle.write_back.specs.Forms.{cut_of, band_total, column_total, line_total}
use Rattle.write_back.specs.declared.writer.BandPlaces.{BandPlaces}
use Rattle.write_back.specs.Pieces.{spot_at, planes_of, spots_of, AreBytes}

-- a place of a block of a band
pub record IsSpot (w : Writer) (k u v : ℕ) : Type 0 where
  pub band : k < (cut_of w).bands
  pub spot : u < (cut_of w).spots
  pub block : v < (cut_of w).blocks

-- a raster of this form has a pixel of a band at a column and a line
pub record HasPixel (w : Writer) (k x y : ℕ) : Type 0 where
  pub band : k < band_total w
  pub column : x < column_total w
  pub line : y < line_total w

-- The most samples of such a line: those of 256 bands in 4,194,304 columns.
abbrev pub most_spots : ℕ
most_spots = 1073741824

-- where the samples of a band from a column on stand in the line that holds them
abbrev pub band_places_by : Bool → ℕ → ℕ → ℕ → BandPlaces
band_places_by woven bands band x = if woven then record {
  band = 0;
  start = x * bands + band;
  stride = bands;
} else record { band = band; start = x; stride = 1 }

-- where the pixels of a band from a column on stand in the block of a line
abbrev pub band_places_of : Writer → ℕ → ℕ → BandPlaces
band_places_of w band x = band_places_by (cut_of w).woven (band_total w) band x

-- n samples of a line of a file from one on
abbrev pub spots_from : Head → List ℕ → ℕ → ℕ → ℕ → ℕ → List ℤ
spots_from h file band x y n = map (λ i. spot_at h file band (x + i) y) (range_with_len 0 n)

-- a head of one pixel of one band, whose samples are written as those of another one
abbrev pub plain_of : Head → Head
plain_of h = record {
  size = record {
    w = 1;
    h = 1;
  };
  bands = 1;
  kind = h.kind;
  big = h.big;
  layout = Bsq;
  skip = 0;
  band_row = sample_len h.kind;
  total_row = sample_len h.kind;
  gap = 0;
  nodata = None;
  geo = None;
}

-- the same, of the samples of a tile
abbrev pub item_head : Head
item_head = record {
  size = record {
    w = 1;
    h = 1;
  };
  bands = 1;
  kind = Int16;
  big = true;
  layout = Bsq;
  skip = 0;
  band_row = 2;
  total_row = 2;
  gap = 0;
  nodata = None;
  geo = None;
}

-- a sample of a line of a band, one of n from x on
pub record IsInRun (band y x n k u v : ℕ) : Type 0 where
  pub band_is : k ≡ band
  pub line_is : v ≡ y
  pub left : x ≤ u
  pub right : u < x + n

-- a sample of a line of a raster
pub record IsLineSpot (h : Head) (k u v : ℕ) : Type 0 where
  pub band : k < planes_of h
  pub spot : u < spots_of h
  pub line : v < h.size.h

-- the draft got n samples of a line from x on, and every other sample stays
pub record IsRunWritten (h : Head) (band y x n : ℕ) (line : List ℤ) (old new : List ℕ) : Type 0 where
  pub len : length new ≡ length old
  pub small : AreBytes old → AreBytes new
  pub here : (u : ℕ) → x ≤ u → u < x + n → spot_at h new band u y ≡ get_or line u (pos 0)
  pub others : (k u v : ℕ) → IsLineSpot h k u v → (IsInRun band y x n k u v → ⊥) →
      spot_at h new k u v ≡ spot_at h old k u v

-- samples cut into n rows of w
abbrev pub cut_rows : ℕ → ℕ → List ℤ → List (List ℤ)
cut_rows w n samples = map (λ r. take w (drop (r * w) samples)) (range_with_len 0 n)
