-- What is loaded of a file: blocks and single samples, with their places, by files that stay open.
use Rattle.std.specs.Prelude.{◌≡◌, ◌*◌, length, ◌<◌, ℕ, ◌+◌, List, Contains, Option}
use Rattle.geotransform.specs.declared.types.PixelType.{PixelType}
use Rattle.geotransform.specs.declared.types.Rect.{Rect}
use Rattle.geotransform.specs.declared.types.PixelType.TheVariants.{Int16, Int32}
use Rattle.esri_hdr.specs.Head.{sample_len}
use Rattle.interleaved_raw.specs.Raw.{position_of}
use Rattle.dted_records.specs.Places.{record_of}
use Rattle.dted_records.specs.Records.{point_place_of}
use Rattle.catalog.specs.declared.driver.DriverHead.{DriverHead}
use Rattle.catalog.specs.declared.driver.DriverHead.TheVariants.{Raw, Dted, Hgt, Ascii}
use Rattle.band_blocks.specs.Blocks.{BlockView, AreIn}

-- a list of samples of a type that has one for each pixel of a rectangle
pub record Covers (rect : Rect) (sample_type : PixelType) (block : BlockView) : Type 0 where
  pub kind : block.kind ≡ sample_type
  pub count : length block.samples ≡ rect.w * rect.h
  pub range : AreIn sample_type block.samples

-- the type of the samples of a file
abbrev pub sample_type_of : DriverHead → PixelType
sample_type_of (Raw h) = h.kind
sample_type_of (Dted h) = Int16
sample_type_of (Hgt side) = Int16
sample_type_of (Ascii h) = Int32

-- the rectangle is a block of a band of a file: a line, or a column of a cell
abbrev pub IsPart : DriverHead → ℕ → Rect → Type 0
IsPart (Raw h) band rect = (band < h.bands) × (rect.y < h.size.h) × (rect ≡ record {
  x = 0;
  y = rect.y;
  w = h.size.w;
  h = 1;
})
IsPart (Dted h) band rect = (rect.x < h.lines) × (rect ≡ record { x = rect.x; y = 0; w = 1; h = h.points })
IsPart (Hgt side) band rect = (rect.y < side) × (rect ≡ record { x = 0; y = rect.y; w = side; h = 1 })
IsPart (Ascii h) band rect = (rect.y < h.size.h) × (rect ≡ record { x = 0; y = rect.y; w = h.size.w; h = 1 })

-- the bytes of a sample
abbrev pub bytes_per_sample : DriverHead → ℕ
bytes_per_sample (Raw h) = sample_len h.kind
bytes_per_sample (Dted h) = 2
bytes_per_sample (Hgt side) = 2
bytes_per_sample (Ascii h) = 0

-- the place of the sample of a band, a column and a line
abbrev pub place_of : DriverHead → ℕ → ℕ → ℕ → ℕ
place_of (Raw h) band x y = position_of h band x y
place_of (Dted h) band x y = record_of h x + point_place_of h y
place_of (Hgt side) band x y = 2 * (y * side + x)
place_of (Ascii h) band x y = 0

-- a file has a sample in a band, a column and a line
abbrev pub HasSample : DriverHead → ℕ → ℕ → ℕ → Type 0
HasSample (Raw h) band x y = (band < h.bands) × (x < h.size.w) × (y < h.size.h)
HasSample (Dted h) band x y = (x < h.lines) × (y < h.points)
HasSample (Hgt side) band x y = (x < side) × (y < side)
HasSample (Ascii h) band x y = (x < h.size.w) × (y < h.size.h)

-- each open file was open, with the same bytes
abbrev pub SameFiles : {File : Type 0} → (File → Option (List ℕ)) → (File → ℕ) → List (ℕ × File) → List (ℕ × File) →
    Type 0
SameFiles {File} bytes len old new = (n : ℕ) (f : File) → Contains new (n, f) →
    (was : File) × Contains old (n, was) × (bytes f ≡ bytes was) × (len f ≡ len was)
