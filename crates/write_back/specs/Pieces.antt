-- How the lines of a raw file are written: in pieces, through room that is used again. A line is one of a band, or of
-- all bands where they stand pixel by pixel.
use Rattle.std.specs.Prelude.{◌≡◌, get_or, ℕ, ℤ, drop, ◌+◌, ◌-◌, ◌*◌, ◌/◌, ◌<◌, ◌≤◌, Bool, true, false, List}
use Rattle.esri_hdr.specs.declared.header_parts.Layout.{Layout}
use Rattle.esri_hdr.specs.declared.header_parts.Layout.TheVariants.{Bil, Bip, Bsq}
use Rattle.esri_hdr.specs.Head.{Head, sample_len}
use Rattle.interleaved_raw.specs.Raw.{position_of, sample_at, stride_of}
use Rattle.hgt_tiles.specs.Places.{IsSide}
use Rattle.catalog.specs.Places.{steps_over}
use Rattle.band_blocks.specs.Contents.{shortest_piece}

-- whether the samples of all bands of a line stand pixel by pixel
abbrev pub is_woven : Layout → Bool
is_woven Bil = false
is_woven Bip = true
is_woven Bsq = false

-- how many bands have lines of their own: all, or one whose lines are those of all bands
abbrev pub planes_by : Layout → ℕ → ℕ
planes_by Bil bands = bands
planes_by Bip bands = 1
planes_by Bsq bands = bands

-- how many bands of a head have lines of their own
abbrev pub planes_of : Head → ℕ
planes_of h = planes_by h.layout h.bands

-- the samples of such a line
abbrev pub spots_by : Layout → ℕ → ℕ → ℕ
spots_by Bil width bands = width
spots_by Bip width bands = width * bands
spots_by Bsq width bands = width

-- how many samples a line of a head has that is written as one block
abbrev pub spots_of : Head → ℕ
spots_of h = spots_by h.layout h.size.w h.bands

-- the place of a sample of such a line: nothing stands between one and the next
abbrev pub spot_place : Head → ℕ → ℕ → ℕ → ℕ
spot_place h band spot y = position_of h band 0 y + spot * sample_len h.kind

-- the sample that a file holds there
abbrev pub spot_at : Head → List ℕ → ℕ → ℕ → ℕ → ℤ
spot_at h bytes band spot y = sample_at h (drop (spot_place h band spot y) bytes)

-- the bytes from the first byte of a line of a band to its last
abbrev pub span_of : Head → ℕ
span_of h = (h.size.w - 1) * stride_of h + sample_len h.kind

-- the most calls in which a line is written, of a band or of all bands
abbrev pub line_calls : Head → ℕ
line_calls h = span_of h / shortest_piece + 2

-- room for the bytes of pieces of so many samples of a line
pub record FitsHead (h : Head) (step bytes : ℕ) : Type 0 where
  pub some : 0 < step
  pub within : step ≤ spots_of h
  pub few : steps_over step (spots_of h) ≤ line_calls h
  pub bytes_fit : bytes ≡ step * sample_len h.kind

-- each number of a list is one of a byte
abbrev pub AreBytes : List ℕ → Type 0
AreBytes bytes = (i : ℕ) → get_or bytes i 0 < 256

-- room for the bytes of a line of a tile
pub record FitsSide (side bytes : ℕ) : Type 0 where
  pub is : IsSide side
  pub bytes_fit : bytes ≡ 2 * side
