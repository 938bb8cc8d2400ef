-- The bytes of the blocks of an output, and the samples that they hold.
use Rattle.std.specs.Prelude.{◌≡◌, ℕ, ℤ, ◌+◌, ◌*◌, ◌≤◌, Bool, false, not, List, [], map, Option, Some, None}
use Rattle.std.specs.List.{range_with_len}
use Rattle.geotransform.specs.declared.types.Rect.{Rect}
use Rattle.outside.specs.Outside.{Files}
use Rattle.esri_hdr.specs.Head.{sample_len}
use Rattle.interleaved_raw.specs.Raw.{strided_at}
use Rattle.hgt_tiles.specs.Samples.{row_of}
use Rattle.dted_records.specs.Places.{record_len}
use Rattle.dted_records.specs.Records.{elevation_in}
use Rattle.dted_records.specs.Written.{record_bytes}
use Rattle.write_back.specs.declared.forms.Writer.{Writer}
use Rattle.write_back.specs.declared.forms.Writer.TheVariants.{Raw, Hgt, Dted}
use Rattle.write_back.specs.Forms.{cut_of}
use Rattle.write_back.specs.Stores.{line_rect}
use Rattle.write_back.specs.Pieces.{spots_of}
use Rattle.write_back.specs.Spots.{plain_of}
use Rattle.write_back.specs.View.{Output, Blocks, Rows, SheetView, calls_of, IsSoundOn}

-- the bytes of a block
abbrev pub block_len : Writer → ℕ
block_len (Raw h) = spots_of h * sample_len h.kind
block_len (Hgt side) = 2 * side
block_len (Dted c) = record_len c.head

-- the samples of a block of these bytes
abbrev pub in_bytes : Writer → List ℕ → List ℤ
in_bytes (Raw h) bytes = map (strided_at (plain_of h) bytes) (range_with_len 0 (spots_of h))
in_bytes (Hgt side) bytes = row_of bytes side
in_bytes (Dted c) bytes = map (elevation_in c.head bytes) (range_with_len 0 c.head.points)

-- the bytes may stand as a block of this number: a record of a cell has its column's number and the sum of its bytes
abbrev pub IsBlockOf : Writer → ℕ → List ℕ → Type 0
IsBlockOf (Raw h) block bytes = Unit {0}
IsBlockOf (Hgt side) block bytes = Unit {0}
IsBlockOf (Dted c) block bytes = bytes ≡ record_bytes block (in_bytes (Dted c) bytes)

-- the pixels of a block: a line, or a column
abbrev pub block_rect : Writer → ℕ → Rect
block_rect (Raw h) block = line_rect 0 block h.size.w
block_rect (Hgt side) block = line_rect 0 block side
block_rect (Dted c) block = record { x = block; y = 0; w = 1; h = c.head.points }

-- the samples of each block are of one band: it is a line of it, or a column
abbrev pub IsApart : Writer → Type 0
IsApart w = (cut_of w).woven ≡ false

-- each block is a line of one band
pub record IsLined (w : Writer) : Type 0 where
  pub rows : (cut_of w).by_columns ≡ false
  pub apart : IsApart w

-- the samples of each block of an output are of one band; a grid has no blocks
abbrev pub AreApart : Output → Type 0
AreApart (Blocks w) = IsApart w
AreApart (Rows g) = ⊥

-- whether the samples of each block of an output are of one band
abbrev pub are_apart : Output → Bool
are_apart (Blocks w) = not (cut_of w).woven
are_apart (Rows g) = false

-- whether there is an output of which blocks can be packed, each of samples of one band
abbrev pub is_packed : Option Output → Bool
is_packed None = false
is_packed (Some o) = are_apart o

-- how many blocks a band of an output has
abbrev pub packed_blocks : Output → ℕ
packed_blocks (Blocks w) = (cut_of w).blocks
packed_blocks (Rows g) = 0

-- the bytes of a block of an output
abbrev pub packed_len : Output → ℕ
packed_len (Blocks w) = block_len w
packed_len (Rows g) = 0

-- the samples of a block of an output, by its bytes
abbrev pub packed_in : Output → List ℕ → List ℤ
packed_in (Blocks w) bytes = in_bytes w bytes
packed_in (Rows g) bytes = []

-- the pixels of a block of an output
abbrev pub packed_rect : Output → ℕ → Rect
packed_rect (Blocks w) block = block_rect w block
packed_rect (Rows g) block = line_rect 0 block 0

-- the bytes may stand as a block of an output
abbrev pub IsPackedOf : Output → ℕ → List ℕ → Type 0
IsPackedOf (Blocks w) block bytes = IsBlockOf w block bytes
IsPackedOf (Rows g) block bytes = Unit {0}

-- what a block that is written past the pool does to an output's data and its folder, whatever it answers
pub record Passes (old new : SheetView) (told told' : Option Files) (r r' c c' w w' : ℕ) : Type 0 where
  pub sound : IsSoundOn old.output new
  pub output : new.output ≡ old.output
  pub name : new.name ≡ old.name
  pub pool : new.pool ≡ old.pool
  pub names : told' ≡ told
  pub reads : r' ≡ r
  pub one : w' ≡ w + 1
  pub calls : c' ≤ c + calls_of old.output
