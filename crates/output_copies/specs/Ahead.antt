-- Lines that are read while those before them are written.
use Rattle.std.specs.Prelude.{ℕ, ℤ, ◌≡◌, ◌≤◌, ◌+◌, ◌-◌, ◌*◌, List, length, Option, Result, IfErr, OnOk}
use Rattle.outside.specs.Outside.{Files}
use Rattle.outside.specs.declared.folder.Folder.{Ghosts}
use Rattle.catalog.specs.Drivers.{Dataset}
use Rattle.nearest_window.specs.Lanes.{LaneView}
use Rattle.lane_teams.specs.Ready.{AreLanesReady}
use Rattle.translate_plan.specs.Plan.{Planned}
use Rattle.write_back.specs.View.{TargetView}
use Rattle.strip_copies.specs.declared.columns.Columns.{Columns}
use Rattle.strip_copies.specs.declared.reading.Lines.{Lines}
use Rattle.strip_copies.specs.Copies.{IsRoomFor, IsTranslation}
use Rattle.error_lines.specs.declared.faults.Fault.{Fault}
use Rattle.output_copies.specs.Copying.{MayEnd, TellsChange}
use Rattle.output_copies.specs.Filled.{IsFilled}
use Rattle.output_copies.specs.Parts.{ArePart, BeginsWith}

module _ {F File Draft : Type 0} (calls : Ghosts F File Draft) (cat : List Dataset) (id : ℕ) (p : Planned)
    (lines : Lines) where
  -- lines may be read into a room through a view, by lanes that are ready
  pub record MayBeRead (told : Option Files) (scene : List Dataset) (view : F) (lanes : List (LaneView File))
      (columns : Columns) (strip room : List ℤ) : Type 0 where
    pub translation : IsTranslation cat id p
    pub part : ArePart p lines
    pub ready : AreLanesReady calls told scene view cat lanes
    pub room_for : IsRoomFor cat id p columns strip
    pub long : p.size.w * (lines.end - lines.first) ≤ length room

  -- they were read, or reading was refused: the lanes are ready, and the room is as long as it was
  pub record WereRead (told : Option Files) (scene : List Dataset) (before view : F) (lanes : List (LaneView File))
      (columns : Columns) (strip : List ℤ) (size : ℕ) (room : List ℤ) (answer : Result (Unit {0}) Fault) : Type 0 where
    pub ready : AreLanesReady calls told scene view cat lanes
    pub room_for : IsRoomFor cat id p columns strip
    pub names : calls.names view ≡ calls.names before
    pub size_is : length room ≡ size
    pub read : OnOk answer (BeginsWith (calls.names before) cat id p lines room)
    pub ends : MayEnd (calls.names before) (calls.faults before) (calls.faults view) 0 0 answer
    pub changed : IfErr answer (TellsChange cat)

  -- lines that were read may be written next
  pub record MayBeWritten (folder : F) (target : TargetView) (room : List ℤ) : Type 0 where
    pub part : ArePart p lines
    pub filled : IsFilled (calls.names folder) cat id p target lines.first lines.end lines.band
    pub read : BeginsWith (calls.names folder) cat id p lines room

  -- they were written, or writing was refused
  pub record WereWritten (before folder : F) (was target : TargetView) (answer : Result (Unit {0}) Fault) : Type 0 where
    pub filled : OnOk answer (IsFilled (calls.names folder) cat id p target lines.first lines.end (lines.band + 1))
    pub name : target.name ≡ was.name
    pub names : calls.names folder ≡ calls.names before
    pub ends : MayEnd (calls.names before) (calls.faults before) (calls.faults folder) 0 0 answer
    pub changed : IfErr answer (TellsChange cat)
