-- What a contract sees of an output that is being written.
use Rattle.std.specs.Prelude.{◌≡◌, ◌<◌, ◌≤◌, ◌+◌, ℕ, ℤ, pos, Bool, List, Option, Some, None, IsSome, true}
use Rattle.std.specs.List.{All}
use Rattle.geotransform.specs.declared.types.Rect.{Rect}
use Rattle.outside.specs.Outside.{Files}
use Rattle.ascii_grid.specs.Values.{is_value}
use Rattle.block_cache.specs.Entries.{PoolView}
use Rattle.write_back.specs.declared.fault.TargetFault.{TargetFault}
use Rattle.write_back.specs.declared.forms.Writer.{Writer}
use Rattle.write_back.specs.declared.rows.GridForm.{GridForm}
use Rattle.write_back.specs.Forms.{band_total, holds, most_calls, column_total, line_total, pixel_sample}
use Rattle.write_back.specs.Grids.{HasRows, grid_in}
use Rattle.write_back.specs.Overlay.{IsOverlaid, WasMet, overlay}
use Rattle.write_back.specs.State.{IsRight, IsSound, lines_met, block_total}

-- what is written: a raster in blocks, or a grid in lines
pub data Output : Type 0 where
  Blocks : Writer → Output
  Rows : GridForm → Output

-- An output's data: what is written, the pool, the draft's bytes, its length and its name, and the lines of a grid that
-- were written. The bytes are none where the draft doesn't tell them, or where they tell a sample other than 0 of a
-- block that wasn't written since the draft was made.
pub record SheetView : Type 0 where
  pub output : Output
  pub pool : PoolView
  pub draft : Option (List ℕ)
  pub len : ℕ
  pub name : List ℕ
  pub lines : ℕ

-- a target: its data, the bytes and the name of its header's draft, and the fault that a refused window left
pub record TargetView : Type 0 where
  pub output : Output
  pub pool : PoolView
  pub draft : Option (List ℕ)
  pub len : ℕ
  pub name : List ℕ
  pub lines : ℕ
  pub header : Option (Option (List ℕ) × List ℕ)
  pub fault : Option TargetFault

-- the data of a target
abbrev pub sheet_in : TargetView → SheetView
sheet_in t = record { output = t.output; pool = t.pool; draft = t.draft; len = t.len; name = t.name; lines = t.lines }

-- a target of this data, with its header and the fault that was left
abbrev pub target_of : SheetView → Option (Option (List ℕ) × List ℕ) → Option TargetFault → TargetView
target_of s header fault = record {
  output = s.output;
  pool = s.pool;
  draft = s.draft;
  len = s.len;
  name = s.name;
  lines = s.lines;
  header = header;
  fault = fault;
}

-- how many bands an output has
abbrev pub bands_of : Output → ℕ
bands_of (Blocks w) = band_total w
bands_of (Rows g) = 1

-- how many columns an output has
abbrev pub columns_of : Output → ℕ
columns_of (Blocks w) = column_total w
columns_of (Rows g) = g.size.w

-- how many lines an output has
abbrev pub line_count_of : Output → ℕ
line_count_of (Blocks w) = line_total w
line_count_of (Rows g) = g.size.h

-- a sample can be written
abbrev pub is_writable : Output → ℤ → Bool
is_writable (Blocks w) n = holds w n
is_writable (Rows g) n = is_value n

-- each sample can be written
abbrev pub AreWritable : Output → List ℤ → Type 0
AreWritable o samples = All (λ n. is_writable o n ≡ true) samples

-- a pixel of a band
pub record IsIn (o : Output) (k x y : ℕ) : Type 0 where
  pub band : k < bands_of o
  pub column : x < columns_of o
  pub line : y < line_count_of o

-- a window of a grid is whole lines, the first of which is the next that is written
abbrev pub IsNext : Output → ℕ → Rect → Type 0
IsNext (Blocks w) lines rect = Unit {0}
IsNext (Rows g) lines rect = (rect.x ≡ 0) × (rect.w ≡ g.size.w) × (rect.y ≡ lines)

-- how many blocks of an output a window meets; of a grid the lines count
abbrev pub window_blocks : Output → Rect → ℕ
window_blocks (Blocks w) rect = lines_met w rect
window_blocks (Rows g) rect = rect.h

-- how many blocks an output has; of a grid the lines count
abbrev pub all_blocks : Output → ℕ
all_blocks (Blocks w) = block_total w
all_blocks (Rows g) = g.size.h

-- the most calls that the writing of a block takes; a grid is appended to, and takes none
abbrev pub calls_of : Output → ℕ
calls_of (Blocks w) = most_calls w
calls_of (Rows g) = 0

-- its blocks go through a pool
abbrev pub IsPooled : Output → Type 0
IsPooled (Blocks w) = Unit {0}
IsPooled (Rows g) = ⊥

-- the samples that a pool and a draft show
abbrev pub pixel_sample_in : Writer → PoolView → Option (List ℕ) → ℕ → ℕ → ℕ → ℤ
pixel_sample_in w pool None k x y = pos 0
pixel_sample_in w pool (Some b) k x y = pixel_sample w (overlay w pool.entries b) k x y

-- the pixel that the pool and the draft of an output show
abbrev pub shown_on : Output → PoolView → Option (List ℕ) → ℕ → ℕ → ℕ → ℤ
shown_on (Blocks w) pool draft k x y = pixel_sample_in w pool draft k x y
shown_on (Rows g) pool draft k x y = grid_in g draft x y

-- the pixel that a target shows
abbrev pub shown : TargetView → ℕ → ℕ → ℕ → ℤ
shown t k x y = shown_on t.output t.pool t.draft k x y

-- what always holds of an output's data
abbrev pub IsSoundOn : Output → SheetView → Type 0
IsSoundOn (Blocks w) s = IsSound w s.pool
IsSoundOn (Rows g) s = s.lines ≤ g.size.h

-- what holds as long as no call was refused
abbrev pub IsRightOn : Output → Option Files → SheetView → Type 0
IsRightOn (Blocks w) told s = IsRight w told s.len s.draft s.pool
IsRightOn (Rows g) told s = (m : Files) → told ≡ Some m → (rows : List (List ℤ)) × HasRows g s.lines s.draft rows

-- a column was met: its record in the draft begins with 170, or the pool holds it and it isn't written yet
abbrev pub IsMetOn : Output → SheetView → ℕ → Type 0
IsMetOn (Blocks w) s x = (b : List ℕ) → s.draft ≡ Some b → WasMet w s.pool.entries b 0 x
IsMetOn (Rows g) s x = Unit {0}

-- each column that was met is met still, and each one of a window is met
pub record Meets (o : Output) (rect : Rect) (old new : SheetView) : Type 0 where
  pub stays : (x : ℕ) → x < columns_of o → IsMetOn o old x → IsMetOn o new x
  pub here : 0 < rect.h → (x : ℕ) → rect.x ≤ x → x < rect.x + rect.w → IsMetOn o new x

-- the lines of a grid that were written after a window
abbrev pub lines_after : Output → ℕ → Rect → ℕ
lines_after (Blocks w) lines rect = lines
lines_after (Rows g) lines rect = lines + rect.h

-- each sample is 0
abbrev pub IsZero : TargetView → Type 0
IsZero t = (k x y : ℕ) → IsIn t.output k x y → shown t k x y ≡ pos 0

-- over a folder that tells its names, a window's samples stand inside its rectangle, and all others are as before
abbrev pub Shows : Option Files → ℕ → Rect → List ℤ → TargetView → TargetView → Type 0
Shows told band rect samples old new =
    IsSome told → IsOverlaid (IsIn old.output) band rect samples (shown old) (shown new)

-- over a folder that tells its names, each column that was met is met still, and each one of a window is met
abbrev pub MeetsAll : Option Files → Rect → TargetView → TargetView → Type 0
MeetsAll told rect old new = IsSome told → Meets old.output rect (sheet_in old) (sheet_in new)
