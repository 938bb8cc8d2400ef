-- The files that an output becomes.
use Rattle.std.specs.Prelude.{◌≡◌, ◌<◌, ℕ, ℤ, ◌*◌, ◌/◌, ◌%◌, List, [], ◌∷◌, ◌++◌, length, map, take, Option, Some, None}
use Rattle.std.specs.Prelude.{Result, Ok, Err}
use Rattle.std.specs.List.{flat_map, range_with_len}
use Rattle.std.specs.FinMap.{insert}
use Rattle.outside.specs.Outside.{Files}
use Rattle.outside.specs.Names.{header_of}
use Rattle.esri_hdr.specs.declared.header_parts.Layout.{Layout}
use Rattle.esri_hdr.specs.declared.header_parts.Layout.TheVariants.{Bil, Bip, Bsq}
use Rattle.esri_hdr.specs.Head.{Head, IsHead, sample_len}
use Rattle.esri_hdr.specs.Text.{hdr_text}
use Rattle.geotransform.specs.Geo.{IsRaster}
use Rattle.interleaved_raw.specs.Raw.{sample_bytes}
use Rattle.hgt_tiles.specs.Samples.{row_bytes}
use Rattle.hgt_tiles.specs.Places.{IsSide}
use Rattle.dted_records.specs.Places.{record_of}
use Rattle.write_back.specs.declared.fault.CloseFault.{CloseFault}
use Rattle.write_back.specs.declared.forms.Writer.{Writer}
use Rattle.write_back.specs.declared.forms.Writer.TheVariants.{Raw, Hgt, Dted}
use Rattle.write_back.specs.declared.rows.GridForm.{GridForm}
use Rattle.dted_records.specs.Written.{record_bytes}
use Rattle.write_back.specs.Columns.{Cell}
use Rattle.write_back.specs.Grids.{front_of, lines_text}
use Rattle.write_back.specs.View.{Output, Blocks, Rows, SheetView, TargetView, sheet_in, shown, IsSoundOn, IsRightOn}
use Rattle.write_back.specs.View.{IsMetOn}

-- nothing but samples stands in a file of the head
abbrev pub IsTightBy : Layout → Head → Type 0
IsTightBy Bil h = (h.band_row ≡ h.size.w * sample_len h.kind) × (h.total_row ≡ h.bands * (h.size.w * sample_len h.kind))
IsTightBy Bip h = h.total_row ≡ h.size.w * h.bands * sample_len h.kind
IsTightBy Bsq h = h.gap ≡ 0

-- nothing but samples stands in raw data of a head
pub record IsTight (h : Head) : Type 0 where
  pub skip : h.skip ≡ 0
  pub rows : IsTightBy h.layout h

-- the band, the column and the line of a sample by its number in the file
abbrev pub sample_band_by : Layout → Head → ℕ → ℕ
sample_band_by Bil h i = i / h.size.w % h.bands
sample_band_by Bip h i = i % h.bands
sample_band_by Bsq h i = i / h.size.w / h.size.h

abbrev pub column_by : Layout → Head → ℕ → ℕ
column_by Bil h i = i % h.size.w
column_by Bip h i = i / h.bands % h.size.w
column_by Bsq h i = i % h.size.w

abbrev pub line_by : Layout → Head → ℕ → ℕ
line_by Bil h i = i / h.size.w / h.bands
line_by Bip h i = i / h.bands / h.size.w
line_by Bsq h i = i / h.size.w % h.size.h

-- the bytes of raw data: those of the samples, in the order of the file
abbrev pub raw_bytes : Head → (ℕ → ℕ → ℕ → ℤ) → List ℕ
raw_bytes h samples =
    flat_map (λ i. sample_bytes h (samples (sample_band_by h.layout h i) (column_by h.layout h i)
    (line_by h.layout h i)))
    (range_with_len 0 (h.bands * h.size.h * h.size.w))

-- a line and a column of the first band
abbrev pub line_at : (ℕ → ℕ → ℕ → ℤ) → ℕ → ℕ → List ℤ
line_at samples w y = map (λ x. samples 0 x y) (range_with_len 0 w)

abbrev pub column_at : (ℕ → ℕ → ℕ → ℤ) → ℕ → ℕ → List ℤ
column_at samples h x = map (λ y. samples 0 x y) (range_with_len 0 h)

-- the bytes of a tile: its lines from north to south
abbrev pub tile_bytes : ℕ → (ℕ → ℕ → ℕ → ℤ) → List ℕ
tile_bytes side samples = flat_map (λ y. row_bytes (line_at samples side y)) (range_with_len 0 side)

-- the bytes of a cell: its head, and the records of its columns from west to east
abbrev pub cell_bytes : Cell → (ℕ → ℕ → ℕ → ℤ) → List ℕ
cell_bytes c samples =
    c.front ++ flat_map (λ x. record_bytes x (column_at samples c.head.points x)) (range_with_len 0 c.head.lines)

-- the text of a grid: its head, and its lines from north to south
abbrev pub grid_text : GridForm → (ℕ → ℕ → ℕ → ℤ) → List ℕ
grid_text g samples = front_of g ++ lines_text (map (line_at samples g.size.w) (range_with_len 0 g.size.h))

-- the bytes of an output that is written in blocks
abbrev pub block_bytes : Writer → (ℕ → ℕ → ℕ → ℤ) → List ℕ
block_bytes (Raw h) samples = raw_bytes h samples
block_bytes (Hgt side) samples = tile_bytes side samples
block_bytes (Dted c) samples = cell_bytes c samples

-- the bytes of an output's data
abbrev pub bytes_of : Output → (ℕ → ℕ → ℕ → ℤ) → List ℕ
bytes_of (Blocks w) samples = block_bytes w samples
bytes_of (Rows g) samples = grid_text g samples

-- the text of the header beside an output, where it has one
abbrev pub header_text : Writer → Option (List ℕ)
header_text (Raw h) = Some (hdr_text h)
header_text (Hgt side) = None
header_text (Dted c) = None

-- the text of the header beside an output, where it has one
abbrev pub header_in : Output → Option (List ℕ)
header_in (Blocks w) = header_text w
header_in (Rows g) = None

-- the name and the bytes of the header's file, where there is a header
abbrev pub header_file : Option (List ℕ) → List ℕ → List (List ℕ × List ℕ)
header_file None name = []
header_file (Some text) name = (header_of name, text) ∷ []

-- the names and the bytes of an output's files: its data, then its header where it has one
abbrev pub files_of : Output → List ℕ → (ℕ → ℕ → ℕ → ℤ) → List (List ℕ × List ℕ)
files_of o name samples = (name, bytes_of o samples) ∷ header_file (header_in o) name

-- a map with files put over it, one after the other
abbrev pub with_files : List (List ℕ × List ℕ) → Files → Files
with_files [] m = m
with_files (f ∷ fs) m = with_files fs (insert m f.0 f.1)

-- how many of n files an answer says are published: all, or as many as it tells
abbrev pub published_of : ℕ → Result (Unit {0}) CloseFault → ℕ
published_of n (Ok x) = n
published_of n (Err e) = e.published

-- a header's draft, by what it tells and its name, is for the text and the name of an output's header
abbrev pub HasHeader : Option (List ℕ) → Option Files → List ℕ → Option (Option (List ℕ) × List ℕ) → Type 0
HasHeader None told name header = header ≡ None
HasHeader (Some text) told name header = (x : Option (List ℕ) × List ℕ) × (header ≡ Some x) × (x.1 ≡ header_of name) ×
    ((m : Files) → told ≡ Some m → x.0 ≡ Some text)

-- what is told of a header's draft, and its name
abbrev pub header_state : {D : Type 0} → (D → Option (List ℕ)) → (D → List ℕ) → Option D →
    Option (Option (List ℕ) × List ℕ)
header_state bytes name None = None
header_state bytes name (Some d) = Some (bytes d, name d)

-- what an output keeps: raw data is samples alone, and the head of a cell is as long as it says
abbrev pub IsBlockForm : Writer → Type 0
IsBlockForm (Raw h) = IsHead h × IsTight h
IsBlockForm (Hgt side) = IsSide side
IsBlockForm (Dted c) = length c.front ≡ record_of c.head 0

-- what the form of an output keeps
abbrev pub IsForm : Output → Type 0
IsForm (Blocks w) = IsBlockForm w
IsForm (Rows g) = IsRaster g.size

-- what holds of a target between two calls: of its pool always, of its drafts as long as no call was refused
pub record IsTarget (told : Option Files) (t : TargetView) : Type 0 where
  pub form : IsForm t.output
  pub sound : IsSoundOn t.output (sheet_in t)
  pub right : t.fault ≡ None → IsRightOn t.output told (sheet_in t)
  pub headed : HasHeader (header_in t.output) told t.name t.header

-- a target may be closed: each column of a cell was met, and each line of a grid was written
abbrev pub IsWholeOn : Output → SheetView → Type 0
IsWholeOn (Blocks (Raw h)) s = Unit {0}
IsWholeOn (Blocks (Hgt side)) s = Unit {0}
IsWholeOn (Blocks (Dted c)) s = (x : ℕ) → x < c.head.lines → IsMetOn (Blocks (Dted c)) s x
IsWholeOn (Rows g) s = s.lines ≡ g.size.h

-- a target is whole, so it may be closed
abbrev pub IsWhole : TargetView → Type 0
IsWhole t = IsWholeOn t.output (sheet_in t)

-- the files of a target
abbrev pub target_files : TargetView → List (List ℕ × List ℕ)
target_files t = files_of t.output t.name (shown t)

-- over a folder that tells its names, where a target was whole, the first published of its files were put under their
-- names, and all other names keep their bytes
abbrev pub Publishes : Option Files → TargetView → Result (Unit {0}) CloseFault → Option Files → Type 0
Publishes old t result new = (m : Files) → old ≡ Some m → (t.fault ≡ None → IsWhole t) →
    new ≡ Some (with_files (take (published_of (length (target_files t)) result) (target_files t)) m)
