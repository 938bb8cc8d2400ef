-- Lanes that read beside each other, each through a view of the folder.
use Rattle.std.specs.Prelude.{◌≡◌, ℕ, ℤ, ◌+◌, ◌*◌, ◌<◌, ◌≤◌, List, length, map, Option, Some, Ok, Err, IfErr}
use Rattle.std.specs.List.{All}
use Rattle.outside.specs.Outside.{Files}
use Rattle.outside.specs.declared.folder.Folder.{Ghosts}
use Rattle.catalog.specs.Drivers.{Dataset}
use Rattle.catalog.specs.Walk.{IsWalked}
use Rattle.band_blocks.specs.declared.fault.LoadFault.TheVariants.{FolderFault}
use Rattle.band_blocks.specs.Open.{IsUnchanged}
use Rattle.nearest_window.specs.Lanes.{LaneView, room_of}
use Rattle.nearest_window.specs.Right.{IsRightLane, TellsChangeIn}
use Rattle.nearest_window.specs.Windows.{IsWindow}
use Rattle.lane_teams.specs.declared.cutting.Job.{Job}
use Rattle.lane_teams.specs.declared.turns.Turn.{Turn}
use Rattle.lane_teams.specs.Parts.{part_of, AreOfWindow}
use Rattle.lane_teams.specs.Refusals.{Answer, HaveAnswered}

-- What a view of a folder is, and what its lane has answered: the view has the folder's files, and wrote nothing. A
-- refusal has its cause in the view's count of faults.
pub record IsTurn (told : Option Files) (cat : List Dataset) (names : Option Files) (faults writes : ℕ)
    (answer : Answer) : Type 0 where
  pub same : names ≡ told
  pub unwritten : writes ≡ 0
  pub failed : answer ≡ Err FolderFault → 1 ≤ faults
  pub changed : IfErr answer (TellsChangeIn cat)
  pub never : (m : Files) → told ≡ Some m → IfErr answer IsUnchanged

-- the lane didn't refuse
abbrev pub IsDone : {F File Draft : Type 0} → Turn F File Draft → Type 0
IsDone t = t.answer ≡ Ok tt

module _ {F File Draft : Type 0} (calls : Ghosts F File Draft) (told : Option Files) (cat : List Dataset) where
  abbrev pub IsTurnOf : Turn F File Draft → Type 0
  IsTurnOf t = IsTurn told cat (calls.names t.view) (calls.faults t.view) (calls.write_calls t.view) t.answer

  -- lanes from one on may read their lines into `out`, each with a view of its own
  pub record AreReady (job : Job) (first : ℕ) (lanes : List (LaneView File)) (turns : List (Turn F File Draft))
      (out : List ℤ) : Type 0 where
    pub some : 0 < length lanes
    pub pairs : length turns ≡ length lanes
    pub few : first + length lanes ≤ job.count
    pub walked : (m : Files) → told ≡ Some m → IsWalked m cat
    pub window : IsWindow cat job.window
    pub size : length out ≡ job.window.rect.w * (part_of job.window job.count first (first + length lanes)).rect.h
    pub right : All (IsRightLane calls told cat) lanes
    pub turns_are : All IsTurnOf turns

  -- lanes from one on, as they were and as they are, have read: each is right, has the room that it had, and has
  -- answered to its lines; where none refused, `out` has the samples of their lines
  pub record HaveRead (job : Job) (first : ℕ) (were lanes : List (LaneView File)) (turns : List (Turn F File Draft))
      (out : List ℤ) : Type 0 where
    pub lanes_count : length lanes ≡ length were
    pub turns_count : length turns ≡ length were
    pub rooms : map room_of lanes ≡ map room_of were
    pub right : All (IsRightLane calls told cat) lanes
    pub turns_are : All IsTurnOf turns
    pub answered : HaveAnswered told cat job.window job.count first (map (λ t. t.answer) turns) out
    pub shown : All IsDone turns → AreOfWindow told cat (part_of job.window job.count first (first + length were)) out
