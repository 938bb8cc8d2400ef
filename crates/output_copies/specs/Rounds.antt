-- Blocks that workers make while those that they made before are written.
use Rattle.std.specs.Prelude.{ℕ, ◌≡◌, ◌<◌, ◌≤◌, List, [], length, Option, Result, IfErr, OnOk}
use Rattle.std.specs.List.{All}
use Rattle.outside.specs.Outside.{Files}
use Rattle.outside.specs.declared.folder.Folder.{Ghosts}
use Rattle.catalog.specs.Drivers.{Dataset}
use Rattle.lane_teams.specs.Workers.{most_workers}
use Rattle.translate_plan.specs.Plan.{Planned}
use Rattle.write_back.specs.declared.forms.Writer.{Writer}
use Rattle.write_back.specs.Forms.{cut_of}
use Rattle.write_back.specs.View.{TargetView}
use Rattle.strip_copies.specs.declared.portions.Form.{Form}
use Rattle.error_lines.specs.declared.faults.Fault.{Fault}
use Rattle.output_copies.specs.declared.handing.Made.{Made}
use Rattle.output_copies.specs.declared.worker.Worker.{Worker}
use Rattle.output_copies.specs.Copying.{MayEnd, TellsChange}
use Rattle.output_copies.specs.Packed.{top_of, AreBlocksWritten, AreDone, HasRoom, IsTask, IsWorker}
use Rattle.output_copies.specs.Packed.{MayAnswerByViews, MayTell, WereMade}

module _ {F File Draft : Type 0} (calls : Ghosts F File Draft) (told : Option Files) (scene cat : List Dataset) (id : ℕ)
    (p : Planned) (w : Writer) (form : Form) (rows step : ℕ) where
  -- some workers may make blocks
  pub record MayMake (workers : List (Worker F File Draft)) : Type 0 where
    pub task : IsTask cat id p w form rows step
    pub some : 0 < length workers
    pub few : length workers ≤ most_workers
    pub each : All (IsWorker calls told scene cat id p w form rows step) workers

  -- so many workers made those from one on, or were refused
  pub record WereDone (next count : ℕ) (workers : List (Worker F File Draft)) : Type 0 where
    pub count_is : length workers ≡ count
    pub done : AreDone calls told scene cat id p w form rows step next workers
    pub ends : MayAnswerByViews told calls workers

module _ {F File Draft : Type 0} (calls : Ghosts F File Draft) (told : Option Files) (cat : List Dataset) (id : ℕ)
    (p : Planned) (w : Writer) (form : Form) (rows step : ℕ) where
  -- what was made of the blocks from one on may be written
  pub record MayPut (first : ℕ) (folder : F) (target : TargetView) (made : List Made) : Type 0 where
    pub task : IsTask cat id p w form rows step
    pub few : length made ≤ most_workers
    pub first_is : first ≤ (cut_of w).blocks
    pub names : told ≡ calls.names folder
    pub made_is : WereMade told cat id p w rows first made
    pub written : AreBlocksWritten (calls.names folder) cat id p w (cut_of w).by_columns target first
    pub empty : target.pool.entries ≡ []

module _ {F File Draft : Type 0} (calls : Ghosts F File Draft) (told : Option Files) (cat : List Dataset) (id : ℕ)
    (p : Planned) (w : Writer) (rows : ℕ) where
  -- it was written, or that was refused
  pub record WerePut (first : ℕ) (before folder : F) (was target : TargetView) (had made : List Made)
      (answer : Result (Unit {0}) Fault) : Type 0 where
    pub count : length made ≡ length had
    pub rooms : All (HasRoom p w rows) made
    pub written : OnOk answer (AreBlocksWritten (calls.names folder) cat id p w (cut_of w).by_columns target
        (top_of (cut_of w).blocks rows first (length had)))
    pub empty : target.pool.entries ≡ []
    pub name : target.name ≡ was.name
    pub names : calls.names folder ≡ calls.names before
    pub later : calls.faults before ≤ calls.faults folder
    pub ends : (count : ℕ) → count ≤ calls.faults before → MayTell told count (calls.faults before) had →
        MayEnd (calls.names before) count (calls.faults folder) 0 0 answer
    pub changed : IfErr answer (TellsChange cat)
