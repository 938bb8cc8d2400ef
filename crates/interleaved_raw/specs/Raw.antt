-- Where the samples of a raw file lie, and what their bytes mean.
use Rattle.std.specs.Prelude.{◌≡◌, ◌<◌, ◌≤◌, ◌⊎◌, ℕ, ℤ, pos, ◌+◌, ◌-◌, ◌*◌, ◌/◌, ◌%◌, Bool, List, length, map, take}
use Rattle.std.specs.Prelude.{drop, if◌then◌else◌, unsigned_abs}
use Rattle.std.specs.List.{range_with_len}
use Rattle.std.specs.Int.{w8, w16, w32, w64, cast_signed, cast_unsigned}
use Rattle.byteorder.specs.Endian.{big_number, little_number, big_bytes, little_bytes}
use Rattle.geotransform.specs.declared.types.PixelType.{PixelType}
use Rattle.geotransform.specs.declared.types.PixelType.TheVariants.{Byte, Int8, UInt16, Int16, UInt32, Int32, UInt64}
use Rattle.geotransform.specs.declared.types.PixelType.TheVariants.{Int64}
use Rattle.esri_hdr.specs.declared.header_parts.Layout.{Layout}
use Rattle.esri_hdr.specs.declared.header_parts.Layout.TheVariants.{Bil, Bip, Bsq}
use Rattle.esri_hdr.specs.Head.{Head, sample_len}

-- the bytes before the sample of a band, a column and a line in a layout
abbrev pub position_by : Layout → Head → ℕ → ℕ → ℕ → ℕ
position_by Bil h band x y = h.skip + y * h.total_row + band * h.band_row + x * sample_len h.kind
position_by Bip h band x y = h.skip + y * h.total_row + (x * h.bands + band) * sample_len h.kind
position_by Bsq h band x y =
    h.skip + band * (h.size.h * h.size.w * sample_len h.kind + h.gap) + (y * h.size.w + x) * sample_len h.kind

-- the place of the sample of a band, a column and a line
abbrev pub position_of : Head → ℕ → ℕ → ℕ → ℕ
position_of h band x y = position_by h.layout h band x y

-- a band, a column and a line of a raster
pub record IsPlace (h : Head) (k x y : ℕ) : Type 0 where
  pub band : k < h.bands
  pub column : x < h.size.w
  pub line : y < h.size.h

-- twice the same band, column and line
pub record IsSamePlace (k x y l u v : ℕ) : Type 0 where
  pub band : k ≡ l
  pub column : x ≡ u
  pub line : y ≡ v

-- the bytes from one sample of a line to the next of its band in a layout
abbrev pub stride_by : Layout → Head → ℕ
stride_by Bil h = sample_len h.kind
stride_by Bip h = h.bands * sample_len h.kind
stride_by Bsq h = sample_len h.kind

-- the bytes from one sample of a line to the next of its band
abbrev pub stride_of : Head → ℕ
stride_of h = stride_by h.layout h

-- the number that the bits of a sample stand for
abbrev pub value_of : PixelType → ℕ → ℤ
value_of Byte bits = pos bits
value_of Int8 bits = cast_signed w8 bits
value_of UInt16 bits = pos bits
value_of Int16 bits = cast_signed w16 bits
value_of UInt32 bits = pos bits
value_of Int32 bits = cast_signed w32 bits
value_of UInt64 bits = pos bits
value_of Int64 bits = cast_signed w64 bits

-- the bits of a sample that stands for a number of the type
abbrev pub bits_of : PixelType → ℤ → ℕ
bits_of Byte n = unsigned_abs n
bits_of Int8 n = cast_unsigned w8 n
bits_of UInt16 n = unsigned_abs n
bits_of Int16 n = cast_unsigned w16 n
bits_of UInt32 n = unsigned_abs n
bits_of Int32 n = cast_unsigned w32 n
bits_of UInt64 n = unsigned_abs n
bits_of Int64 n = cast_unsigned w64 n

-- the number that n bytes write, the first or the last of which counts most
abbrev pub number_in : Bool → ℕ → List ℕ → ℕ
number_in big n bytes = if big then big_number n bytes else little_number n bytes

-- the sample at the front of the bytes
abbrev pub sample_at : Head → List ℕ → ℤ
sample_at h bytes = value_of h.kind (number_in h.big (sample_len h.kind) (take (sample_len h.kind) bytes))

-- the sample that a file holds in a band, a column and a line
abbrev pub raw_at : Head → List ℕ → ℕ → ℕ → ℕ → ℤ
raw_at h bytes band x y = sample_at h (drop (position_of h band x y) bytes)

-- the samples of a band and a line of a file, n of them from column x on
abbrev pub row_of : Head → List ℕ → ℕ → ℕ → ℕ → ℕ → List ℤ
row_of h file band x y n = map (λ i. raw_at h file band (x + i) y) (range_with_len 0 n)

-- the bytes hold n samples that stand a stride apart
abbrev pub Holds : Head → List ℕ → ℕ → Type 0
Holds h bytes n = 0 < n → (n - 1) * stride_of h + sample_len h.kind ≤ length bytes

-- sample i of those that stand a stride apart
abbrev pub strided_at : Head → List ℕ → ℕ → ℤ
strided_at h bytes i = sample_at h (drop (i * stride_of h) bytes)

-- the bytes of sample i of those that stand a stride apart
abbrev pub bytes_at : Head → List ℕ → ℕ → List ℕ
bytes_at h bytes i = take (sample_len h.kind) (drop (i * stride_of h) bytes)

-- the n bytes that write a number, the first or the last of which counts most
abbrev pub number_bytes : Bool → ℕ → ℕ → List ℕ
number_bytes big n x = if big then big_bytes n x else little_bytes n x

-- the bytes that write a sample
abbrev pub sample_bytes : Head → ℤ → List ℕ
sample_bytes h n = number_bytes h.big (sample_len h.kind) (bits_of h.kind n)

-- the byte at j is in none of the first n samples
abbrev pub IsBetween : Head → ℕ → ℕ → Type 0
IsBetween h n j = (sample_len h.kind ≤ j % stride_of h) ⊎ (n ≤ j / stride_of h)

-- the bytes that a file of the head must have: the place of its last sample, and that sample
abbrev pub needed_of : Head → ℕ
needed_of h = position_of h (h.bands - 1) (h.size.w - 1) (h.size.h - 1) + sample_len h.kind
