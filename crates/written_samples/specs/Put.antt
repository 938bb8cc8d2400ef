-- What is put into a file's bytes.
use Rattle.std.specs.Prelude.{◌≡◌, ◌<◌, ◌≤◌, ℕ, ℤ, ◌+◌, ◌*◌, true, List, length, map, get_or}
use Rattle.std.specs.List.{range_with_len, All}
use Rattle.geotransform.specs.Types.{is_in}
use Rattle.geotransform.specs.declared.types.PixelType.TheVariants.{Int16}
use Rattle.esri_hdr.specs.declared.header_parts.Layout.TheVariants.{Bip}
use Rattle.esri_hdr.specs.Head.{Head, sample_len}
use Rattle.interleaved_raw.specs.Raw.{position_of, Holds, strided_at, IsBetween}
use Rattle.dted_records.specs.Head as cell
use Rattle.dted_records.specs.Places.{record_len, record_of}
use Rattle.dted_records.specs.Written.{IsElevation}

-- a pixel of a line, one of n from a column on
pub record IsInRow (x y n u v : ℕ) : Type 0 where
  pub line : v ≡ y
  pub left : x ≤ u
  pub right : u < x + n

-- a pixel of a band's line, one of n from a column on
pub record IsInRun (band x y n k u v : ℕ) : Type 0 where
  pub band_is : k ≡ band
  pub row : IsInRow x y n u v

-- Bytes that may be put into a raw file as a run of samples, which are those of a band and a line from a column on: a
-- stride apart they hold the samples, and between the samples they are what the file has there.
pub record IsRunFor (h : Head) (file : List ℕ) (band x y : ℕ) (samples : List ℤ) (bytes : List ℕ) : Type 0 where
  pub in_bands : band < h.bands
  pub in_lines : y < h.size.h
  pub in_columns : x + length samples ≤ h.size.w
  pub in_file : position_of h band x y + length bytes ≤ length file
  pub holds : Holds h bytes (length samples)
  pub read : map (strided_at h bytes) (range_with_len 0 (length samples)) ≡ samples
  pub between : (j : ℕ) → j < length bytes → IsBetween h (length samples) j →
      get_or bytes j 0 ≡ get_or file (position_of h band x y + j) 0

-- the number of a sample in its line of a BIP file, where those of all bands of a pixel come before those of the next
-- pixel
abbrev pub number_in_line : Head → ℕ → ℕ → ℕ
number_in_line h band x = x * h.bands + band

-- bytes that may be put into a BIP file as n samples of a line, one behind the other from that of a band and a column
-- on
pub record AreSamplesFor (h : Head) (file : List ℕ) (band x y n : ℕ) (bytes : List ℕ) : Type 0 where
  pub bip : h.layout ≡ Bip
  pub in_lines : y < h.size.h
  pub in_columns : number_in_line h band x + n ≤ h.size.w * h.bands
  pub in_file : position_of h band x y + length bytes ≤ length file
  pub size : length bytes ≡ n * sample_len h.kind

-- samples that may be put into a tile's file, whose lines have so many samples, from a column of a line on
pub record IsRowFor (side : ℕ) (file : List ℕ) (x y : ℕ) (samples : List ℤ) : Type 0 where
  pub in_columns : x + length samples ≤ side
  pub in_file : 2 * (y * side + x) + 2 * length samples ≤ length file
  pub range : All (λ n. is_in Int16 n ≡ true) samples

-- elevations that may be put into a cell's file as the record of a line
pub record IsRecordFor (h : cell.Head) (file : List ℕ) (x : ℕ) (samples : List ℤ) : Type 0 where
  pub points : length samples ≡ h.points
  pub in_file : record_of h x + record_len h ≤ length file
  pub range : All IsElevation samples
