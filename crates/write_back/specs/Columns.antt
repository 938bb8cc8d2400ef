-- The records of a DTED cell that is written, and what its draft holds.
use Rattle.std.specs.Prelude.{◌≡◌, ◌<◌, ℕ, ℤ, pos, Bool, ◌&&◌, int_le, List, take, get_or}
use Rattle.geotransform.specs.Types.{is_in}
use Rattle.geotransform.specs.declared.types.PixelType.TheVariants.{Int16}
use Rattle.dted_records.specs.Head.{Head, part}
use Rattle.dted_records.specs.Places.{record_len, record_of}
use Rattle.dted_records.specs.Records.{dted_at, column_of}
use Rattle.dted_records.specs.Written.{record_bytes}
use Rattle.catalog.specs.Drivers.{null_elevation}
use Rattle.write_back.specs.Pieces.{AreBytes}

-- a cell: its head, and the bytes in front of its records
pub record Cell : Type 0 where
  pub head : Head
  pub front : List ℕ

-- a cell of a head, with the bytes in front of its records
abbrev pub cell_with_front : Head → List ℕ → Cell
cell_with_front head front = record { head = head; front = front }

-- whether sign and magnitude can write an elevation in 16 bits
abbrev pub is_elevation : ℤ → Bool
is_elevation n = is_in Int16 n && int_le null_elevation n

-- a column was met: its record in the draft begins with 170
abbrev pub IsBegun : Head → List ℕ → ℕ → Type 0
IsBegun h bytes x = get_or bytes (record_of h x) 0 ≡ 170

-- What always holds of a cell's draft: the head's bytes stand in front, each record that begins with 170 is whole with
-- its sum, and the elevations of each other one are 0.
pub record IsCell (c : Cell) (bytes : List ℕ) : Type 0 where
  pub small : AreBytes bytes
  pub front : take (record_of c.head 0) bytes ≡ c.front
  pub whole : (x : ℕ) → x < c.head.lines → IsBegun c.head bytes x →
      part (record_of c.head x) (record_len c.head) bytes ≡ record_bytes x (column_of c.head bytes x)
  pub zeros : (x y : ℕ) → x < c.head.lines → y < c.head.points → (IsBegun c.head bytes x → ⊥) →
      dted_at c.head bytes x y ≡ pos 0

-- room for the bytes of a record, and the bytes in front of the records
pub record FitsCell (h : Head) (front bytes : ℕ) : Type 0 where
  pub front_fits : front ≡ record_of h 0
  pub bytes_fit : bytes ≡ record_len h
