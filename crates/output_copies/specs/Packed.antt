-- Blocks of an output, lines of a band or columns, that several workers make and pack beside each other.
use Rattle.std.specs.Prelude.{ℕ, ℤ, pos, ◌≡◌, ◌<◌, ◌≤◌, ◌+◌, ◌-◌, ◌*◌, min, Bool, true, false, List, length, Option}
use Rattle.std.specs.Prelude.{Some, None, Ok, IfErr, [], get_or, slice_get}
use Rattle.std.specs.List.{All}
use Rattle.outside.specs.Outside.{Files}
use Rattle.outside.specs.declared.folder.Folder.{Ghosts}
use Rattle.catalog.specs.Drivers.{Dataset}
use Rattle.band_blocks.specs.Blocks.{BlockView}
use Rattle.lane_teams.specs.Ready.{AreLanesReady}
use Rattle.translate_plan.specs.Plan.{Planned}
use Rattle.write_back.specs.declared.forms.Writer.{Writer}
use Rattle.write_back.specs.Files.{IsTarget}
use Rattle.write_back.specs.Forms.{cut_of}
use Rattle.write_back.specs.Packed.{block_len, in_bytes, IsApart, IsBlockOf}
use Rattle.write_back.specs.Plans.{output_of}
use Rattle.write_back.specs.View.{Blocks, TargetView, columns_of, sheet_in, shown, IsIn, IsMetOn}
use Rattle.strip_copies.specs.declared.portions.Form.{Form}
use Rattle.strip_copies.specs.declared.portions.Form.TheVariants.{Lines, Pieces, Records}
use Rattle.strip_copies.specs.Copies.{IsRoomFor, IsTranslation, IsHeldIn}
use Rattle.strip_copies.specs.Portions.{makes_columns, TakesForm}
use Rattle.output_copies.specs.declared.handing.Made.{Made}
use Rattle.output_copies.specs.declared.worker.Worker.{Worker}
use Rattle.output_copies.specs.Copying.{MayEnd, TellsChange}
use Rattle.output_copies.specs.Filled.{IsFilled}
use Rattle.output_copies.specs.Steps.{raster_of}

-- the place of a band's block among the packed blocks of a portion: block by block, each band by band
abbrev pub place_in : ℕ → ℕ → ℕ → ℕ
place_in bands band row = row * bands + band

-- the block from which on a worker makes blocks, of those of an extent from `first` on, so many for each
abbrev pub top_of : ℕ → ℕ → ℕ → ℕ → ℕ
top_of extent rows first at = min (first + at * rows) extent

-- the samples for which a worker has room at once: lines as long as the output, or rows of a piece
abbrev pub room_in : Form → Planned → ℕ → ℕ → ℕ
room_in Lines p rows step = p.size.w * step
room_in Pieces p rows step = step * rows
room_in Records p rows step = rows * step

-- how many columns are made at once: those of a portion where blocks are columns
abbrev pub records_in : Form → ℕ → ℕ
records_in Lines rows = 0
records_in Pieces rows = 0
records_in Records rows = rows

-- the pixel of a raster of one band at a place of a column, or of a line
abbrev pub spot_pixel : Bool → (ℕ → ℕ → ℤ) → ℕ → ℕ → ℤ
spot_pixel true f block spot = f block spot
spot_pixel false f block spot = f spot block

-- the first n samples of a run are those of a column of rows of this width that stand one behind the other
abbrev pub HasRows : List ℤ → ℕ → ℕ → ℕ → List ℤ → Type 0
HasRows samples wide at n run = (r : ℕ) → r < n → get_or run r (pos 0) ≡ get_or samples (r * wide + at) (pos 0)

-- The first n samples of a block of a band, a column or a line: the output can hold each, and over a folder that tells
-- its files they are those of the plan's raster.
pub record HoldsFront (told : Option Files) (cat : List Dataset) (id : ℕ) (p : Planned) (by_columns : Bool)
    (band block n : ℕ) (samples : List ℤ) : Type 0 where
  pub held : (u : ℕ) → u < n → IsHeldIn p band (get_or samples u (pos 0))
  pub pixels : (m : Files) (d : Dataset) → told ≡ Some m → slice_get cat id ≡ Some d → (u : ℕ) → u < n →
      get_or samples u (pos 0) ≡ spot_pixel by_columns (raster_of m d p band) block u

-- What is made and packed: lines, or columns, of the output of a plan, by a writer whose blocks they are.
pub record IsTask (cat : List Dataset) (id : ℕ) (p : Planned) (w : Writer) (form : Form) (rows step : ℕ) : Type 0 where
  pub translation : IsTranslation cat id p
  pub output : output_of p ≡ Some (Blocks w)
  pub apart : IsApart w
  pub form_is : TakesForm form cat id p
  pub columns : makes_columns form ≡ (cut_of w).by_columns
  pub some_rows : 1 ≤ rows
  pub some_step : 1 ≤ step

-- a block that is one of a writer's
pub record IsBlockFor (w : Writer) (block : BlockView) : Type 0 where
  pub kind : block.kind ≡ (cut_of w).kind
  pub count : length block.samples ≡ (cut_of w).spots

-- a block through which lines are packed, and room for the packed blocks of a portion
pub record ArePacks (p : Planned) (w : Writer) (rows : ℕ) (block : BlockView) (packed : List (List ℕ)) : Type 0 where
  pub block_is : IsBlockFor w block
  pub long : length packed ≡ rows * length p.bands
  pub each : All (λ bytes. length bytes ≡ block_len w) packed

-- the same, room for samples that are read at once, and a block for each column of a portion
pub record IsDesk (p : Planned) (w : Writer) (form : Form) (rows step : ℕ) (room : List ℤ) (block : BlockView)
    (records : List BlockView) (packed : List (List ℕ)) : Type 0 where
  pub wide : room_in form p rows step ≤ length room
  pub packs : ArePacks p w rows block packed
  pub count : length records ≡ records_in form rows
  pub each : All (IsBlockFor w) records

-- room for the packed blocks of a portion
pub record HasRoom (p : Planned) (w : Writer) (rows : ℕ) (x : Made) : Type 0 where
  pub long : length x.packed.items ≡ rows * length p.bands
  pub each : All (λ bytes. length bytes ≡ block_len w) x.packed.items

module _ (told : Option Files) (cat : List Dataset) (id : ℕ) (p : Planned) (w : Writer) where
  -- the bytes are those of a block of a band
  pub record IsPackedAt (band block : ℕ) (bytes : List ℕ) : Type 0 where
    pub front : HoldsFront told cat id p (cut_of w).by_columns band block (cut_of w).spots (in_bytes w bytes)
    pub whole : IsBlockOf w block bytes

  -- a block of a band stands packed among those of a portion
  abbrev pub IsMade : ℕ → List (List ℕ) → ℕ → ℕ → Type 0
  IsMade top packed band block = IsPackedAt band block (get_or packed (place_in (length p.bands) band (block - top)) [])

  -- the blocks of a portion before `first` stand packed, and in the first bands, k of them, the blocks before `end`
  pub record AreMade (top : ℕ) (packed : List (List ℕ)) (first end k : ℕ) : Type 0 where
    pub above : (b y : ℕ) → b < length p.bands → top ≤ y → y < first → IsMade top packed b y
    pub beside : (b y : ℕ) → b < k → first ≤ y → y < end → IsMade top packed b y

  -- of a band's lines from one up to another the first n samples stand packed
  abbrev pub AreFronts : ℕ → List (List ℕ) → ℕ → ℕ → ℕ → ℕ → Type 0
  AreFronts top packed first end band n = (y : ℕ) → first ≤ y → y < end →
      HoldsFront told cat id p false band y n (in_bytes w (get_or packed (place_in (length p.bands) band (y - top)) []))

  -- so many columns from one on have their first n samples
  abbrev pub AreColumnFronts : ℕ → ℕ → ℕ → List BlockView → Type 0
  AreColumnFronts top count n columns = (i : ℕ) (d : BlockView) → i < count →
      HoldsFront told cat id p true 0 (top + i) n (get_or columns i d).samples

  -- An output of columns, in which the first ones were written, and no column was refused. Over a folder that tells its
  -- files they are those of the plan's raster.
  pub record AreColumnsWritten (t : TargetView) (x : ℕ) : Type 0 where
    pub target : IsTarget told t
    pub output : output_of p ≡ Some t.output
    pub fault : t.fault ≡ None
    pub copied : (m : Files) (d : Dataset) → told ≡ Some m → slice_get cat id ≡ Some d → (b i j : ℕ) →
        IsIn t.output b i j → i < x → shown t b i j ≡ raster_of m d p b i j
    pub met : (m : Files) → told ≡ Some m → (i : ℕ) → i < columns_of t.output → i < x →
        IsMetOn t.output (sheet_in t) i

  -- an output in which the first blocks of all bands were written, lines or columns
  abbrev pub AreBlocksWritten : Bool → TargetView → ℕ → Type 0
  AreBlocksWritten false t block = IsFilled told cat id p t block block 0
  AreBlocksWritten true t block = AreColumnsWritten t block

module _ (told : Option Files) (cat : List Dataset) (id : ℕ) (p : Planned) (w : Writer) (rows : ℕ) where
  -- the blocks from `top` up to `end` were made, or that was refused
  pub record WasMade (top end : ℕ) (x : Made) : Type 0 where
    pub room : HasRoom p w rows x
    pub made : x.answer ≡ Ok tt → AreMade told cat id p w top x.packed.items end end 0
    pub changed : IfErr x.answer (TellsChange cat)

  -- the blocks from one on were made by some workers, each of them so many
  abbrev pub WereMade : ℕ → List Made → Type 0
  WereMade first made = (i : ℕ) (d : Made) → i < length made →
      WasMade (top_of (cut_of w).blocks rows first i) (top_of (cut_of w).blocks rows first (i + 1)) (get_or made i d)

-- what some workers answered may end a translation, between two counts of the folder's faults
abbrev pub MayTell : Option Files → ℕ → ℕ → List Made → Type 0
MayTell told folder folder_now made = (i : ℕ) (d : Made) → i < length made →
    MayEnd told folder folder_now 0 0 (get_or made i d).answer

module _ {F File Draft : Type 0} (calls : Ghosts F File Draft) (told : Option Files) (scene cat : List Dataset) (id : ℕ)
    (p : Planned) (w : Writer) (form : Form) (rows step : ℕ) where
  -- a worker may make blocks through its view
  pub record IsWorker (x : Worker F File Draft) : Type 0 where
    pub ready : AreLanesReady calls told scene x.desk.view cat x.lanes.items
    pub room_for : IsRoomFor cat id p x.columns x.samples.items
    pub desk : IsDesk p w form rows step x.desk.room.items x.desk.block x.desk.records.items x.desk.packed.items

  -- a worker made the blocks from `top` up to `end`, or was refused, and may make others
  pub record HasDone (top end : ℕ) (x : Worker F File Draft) : Type 0 where
    pub worker : IsWorker x
    pub made : x.answer ≡ Ok tt → AreMade told cat id p w top x.desk.packed.items end end 0
    pub changed : IfErr x.answer (TellsChange cat)

  -- each of some workers made its blocks of those from one on
  abbrev pub AreDone : ℕ → List (Worker F File Draft) → Type 0
  AreDone first workers = (i : ℕ) (d : Worker F File Draft) → i < length workers →
      HasDone (top_of (cut_of w).blocks rows first i) (top_of (cut_of w).blocks rows first (i + 1)) (get_or workers i d)

module _ {F File Draft : Type 0} (told : Option Files) where
  -- what each of some workers answered may end a translation, between two counts of the folder's faults
  abbrev pub MayAnswer : ℕ → ℕ → List (Worker F File Draft) → Type 0
  MayAnswer folder folder_now workers = (i : ℕ) (d : Worker F File Draft) → i < length workers →
      MayEnd told folder folder_now 0 0 (get_or workers i d).answer

  -- the same, where each one's faults are those of its view
  abbrev pub MayAnswerByViews : Ghosts F File Draft → List (Worker F File Draft) → Type 0
  MayAnswerByViews calls workers = (i : ℕ) (d : Worker F File Draft) → i < length workers →
      MayEnd told 0 (calls.faults (get_or workers i d).desk.view) 0 0 (get_or workers i d).answer
