-- When all lanes of a team are ready, and what they do to the folder.
use Rattle.std.specs.Prelude.{◌≡◌, ◌<◌, List, length, Option, ◌≤◌}
use Rattle.std.specs.List.{All}
use Rattle.outside.specs.declared.folder.Folder.{Ghosts}
use Rattle.outside.specs.Outside.{Files}
use Rattle.catalog.specs.Drivers.{Dataset}
use Rattle.nearest_window.specs.Lanes.{LaneView}
use Rattle.nearest_window.specs.Right.{IsFresh, IsReady}

-- there is a lane, and each is ready for a catalog and a folder; lines that stand for a map and for datasets stand for
-- these
pub record AreLanesReady {F File Draft : Type 0} (calls : Ghosts F File Draft) (told : Option Files)
    (scene : List Dataset) (folder : F) (cat : List Dataset) (lanes : List (LaneView File)) : Type 0 where
  pub some : 0 < length lanes
  pub ready : All (IsReady calls folder cat) lanes
  pub told_is : told ≡ calls.names folder
  pub scene_is : scene ≡ cat

-- there is a lane, and each is ready for each folder and each catalog that was walked over it
pub record AreLanesFresh {F File Draft : Type 0} (calls : Ghosts F File Draft) (lanes : List (LaneView File)) : Type 0
  where
    pub some : 0 < length lanes
    pub fresh : All (IsFresh calls) lanes

-- only reads were made, some of them through views: the files are as before, no write was counted, and the count of
-- faults isn't lower
pub record OnlyReadByViews {F File Draft : Type 0} (calls : Ghosts F File Draft) (before after : F) : Type 0 where
  pub names : calls.names after ≡ calls.names before
  pub writes : calls.write_calls after ≤ calls.write_calls before
  pub faults : calls.faults before ≤ calls.faults after
