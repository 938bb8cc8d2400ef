-- Lanes of a team that stay ready.
use Rattle.std.proofs.Common.{◌≡◌, ◌∙◌, sym, List, Option}
use Rattle.outside.specs.declared.folder.Folder.{Ghosts}
use Rattle.outside.specs.Outside.{Files}
use Rattle.outside.specs.Reading.{WhereTold}
use Rattle.catalog.specs.Drivers.{Dataset}
use Rattle.catalog.specs.Walk.{IsWalked}
use Rattle.nearest_window.specs.Lanes.{LaneView}
use Rattle.lane_teams.specs.Ready.{AreLanesFresh, AreLanesReady}
use Rattle.lane_teams.proofs.Groups.{all_kept}

module _ {F File Draft : Type 0} (calls : Ghosts F File Draft) (told : Option Files) (scene cat : List Dataset) (lanes : List (LaneView File)) where
  -- fresh lanes are ready for a catalog that was walked over a folder
  pub lanes_begin : (folder : F) → told ≡ calls.names folder → scene ≡ cat → WhereTold calls folder (λ m. IsWalked m cat) → AreLanesFresh calls lanes → AreLanesReady calls told scene folder cat lanes
  lanes_begin folder told_is scene_is walked lanes_are = record { some = lanes_are.some; ready = λ k d less. lanes_are.fresh k d less folder cat walked; told_is = told_is; scene_is = scene_is }

  -- lanes stay ready where the folder's files stay
  pub lanes_kept : (folder folder' : F) → calls.names folder' ≡ calls.names folder → AreLanesReady calls told scene folder cat lanes → AreLanesReady calls told scene folder' cat lanes
  lanes_kept folder folder' same lanes_are = record { some = lanes_are.some; ready = all_kept calls cat folder folder' lanes same lanes_are.ready; told_is = lanes_are.told_is ∙ sym same; scene_is = lanes_are.scene_is }
