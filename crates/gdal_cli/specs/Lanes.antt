-- A lane with lines.
use Rattle.std.specs.Prelude.{◌≡◌, List, Option}
use Rattle.outside.specs.declared.folder.Folder.{Ghosts}
use Rattle.outside.specs.Outside.{Files}
use Rattle.catalog.specs.Drivers.{Dataset}
use Rattle.nearest_window.specs.Lanes.{LaneView}
use Rattle.nearest_window.specs.Right.{IsReady}

-- the lane is ready for a catalog and a folder; lines that stand for a map and for datasets stand for these
pub record IsReadyWith {F File Draft : Type 0} (calls : Ghosts F File Draft) (told : Option Files)
    (scene : List Dataset) (folder : F) (cat : List Dataset) (lane : LaneView File) : Type 0 where
  pub ready : IsReady calls folder cat lane
  pub told_is : told ≡ calls.names folder
  pub scene_is : scene ≡ cat
