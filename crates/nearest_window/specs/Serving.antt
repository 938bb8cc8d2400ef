-- What a call does to a lane.
use Rattle.std.specs.Prelude.{◌≡◌, List, Option, ℕ, ℤ, ◌+◌, ◌*◌, ◌≤◌, length, Result, IfErr}
use Rattle.outside.specs.Outside.{Files}
use Rattle.outside.specs.declared.folder.Folder.{Ghosts}
use Rattle.outside.specs.Causes.{HasCause}
use Rattle.outside.specs.Reading.{WhereTold}
use Rattle.catalog.specs.Drivers.{Dataset}
use Rattle.catalog.specs.Blocks.{all_blocks}
use Rattle.band_blocks.specs.declared.key.PixelKey.{PixelKey}
use Rattle.band_blocks.specs.Contents.{most_calls}
use Rattle.band_blocks.specs.declared.fault.LoadFault.{LoadFault}
use Rattle.band_blocks.specs.declared.fault.LoadFault.TheVariants.{FolderFault}
use Rattle.band_blocks.specs.Open.{IsUnchanged}
use Rattle.block_cache.specs.Entries.{PoolView}
use Rattle.nearest_window.specs.Lanes.{LaneView}
use Rattle.nearest_window.specs.Right.{IsReady, IsRight, slack_of, TellsChangeIn}
use Rattle.nearest_window.specs.declared.indexes.Kept.{Kept}

-- The lane is ready for a catalog and a folder, and lines stand for both: for what the folder tells, and that catalog.
pub record IsFit {F File Draft : Type 0} (calls : Ghosts F File Draft) (shown : Option Files) (known : List Dataset)
    (folder : F) (cat : List Dataset) (lane : LaneView File) : Type 0 where
  pub ready : IsReady calls folder cat lane
  pub told : shown ≡ calls.names folder
  pub scene : known ≡ cat

-- a lane with its folder and its count of loads, at one moment
pub record LaneState (File : Type 0) : Type 0 where
  pub told : Option Files
  pub pool : PoolView
  pub files : List (ℕ × File)
  pub made : PoolView
  pub indexes : List Kept
  pub recalled : List (PixelKey × ℤ)
  pub faults : ℕ
  pub reads : ℕ
  pub writes : ℕ
  pub loads : ℕ

abbrev pub lane_state : {File : Type 0} → Option Files → PoolView → List (ℕ × File) → PoolView → List Kept →
    List (PixelKey × ℤ) → ℕ → ℕ → ℕ → ℕ → LaneState File
lane_state told pool files made indexes recalled faults reads writes loads = record {
  told = told;
  pool = pool;
  files = files;
  made = made;
  indexes = indexes;
  recalled = recalled;
  faults = faults;
  reads = reads;
  writes = writes;
  loads = loads;
}

-- What each call does to a lane. It is right afterwards, and the folder's files and count of writes are as before. No
-- load takes more reads than the most that a block of the catalog needs. With room for all blocks, each load but the
-- slack makes one more block held.
pub record Serves {File : Type 0} (bytes : File → Option (List ℕ)) (len : File → ℕ) (cat : List Dataset) (slack : ℕ)
    (before after : LaneState File) : Type 0 where
  pub right : IsRight bytes len after.told cat after.pool after.files after.made after.indexes after.recalled
  pub told : after.told ≡ before.told
  pub writes : after.writes ≡ before.writes
  pub capacity : after.pool.capacity ≡ before.pool.capacity
  pub faults : before.faults ≤ after.faults
  pub loads : before.loads ≤ after.loads
  pub reads : after.reads + most_calls cat * before.loads ≤ before.reads + most_calls cat * after.loads
  pub held : length before.pool.entries ≤ length after.pool.entries
  pub bound : all_blocks cat ≤ before.pool.capacity →
      after.loads + length before.pool.entries ≤ before.loads + length after.pool.entries + slack

-- a lane with a folder and a count of loads
abbrev pub state_of : {F File Draft : Type 0} → Ghosts F File Draft → F → LaneView File → ℕ → LaneState File
state_of calls folder lane loads = lane_state (calls.names folder) lane.pool lane.files lane.made lane.indexes
    lane.recalled (calls.faults folder) (calls.read_calls folder) (calls.write_calls folder) loads

-- what a call does to a lane, its folder and its count of loads, by its answer
abbrev pub Served : {F File Draft T E : Type 0} → Ghosts F File Draft → List Dataset → Result T E → F → LaneView File →
    ℕ → F → LaneView File → ℕ → Type 0
Served calls cat result folder lane loads folder' lane' loads' = Serves calls.file_bytes calls.file_len cat
    (slack_of result) (state_of calls folder lane loads) (state_of calls folder' lane' loads')

-- What a call that reads answers, and what it does to a lane, its folder and its count of loads. A fault of the folder
-- comes only where the folder's count of faults rose. A fault that says that a file changed tells what was found, and
-- comes never over a folder that tells its files.
pub record IsAnswered {F File Draft T : Type 0} (calls : Ghosts F File Draft) (cat : List Dataset)
    (result : Result T LoadFault) (folder : F) (lane : LaneView File) (loads : ℕ) (folder' : F) (lane' : LaneView File)
    (loads' : ℕ) : Type 0 where
  pub serves : Served calls cat result folder lane loads folder' lane' loads'
  pub cause : HasCause FolderFault (calls.faults folder) (calls.faults folder') result
  pub changed : IfErr result (TellsChangeIn cat)
  pub never : WhereTold calls folder (λ _. IfErr result IsUnchanged)
