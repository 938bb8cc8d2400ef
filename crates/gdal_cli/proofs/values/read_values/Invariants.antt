use Rattle.std.proofs.Common.{◌≡◌, ◌≤◌, ◌<◌, ◌-◌, ℕ, pos, Some, take, length, map, get_or}
use Rattle.outside.specs.Outside.{Files}
use Rattle.catalog.specs.Pixels.{pixel_of}
use Rattle.nearest_window.specs.Windows.{IsInBand}
use Rattle.gdal_cli.specs.Lanes.{IsReadyWith}
use Rattle.gdal_cli.proofs.values.read_values.Given as goal

-- the values of the bands so far
abbrev pub invariant-loop-at : goal.invariant-loop-at
invariant-loop-at g l = record {
  room : length l.values ≡ length l.fn.values;
  values : (m : Files) → g.F.Folder.names l.fn.folder ≡ Some m → take l.at l.values ≡ map (λ band. pixel_of m l.question.cat l.question.id (band - 1) l.x l.y) (take l.at l.bands);
  typed : (k : ℕ) → k < l.at → IsInBand l.question.cat l.question.id (get_or l.bands k 0 - 1) (get_or l.values k (pos 0));
  ready : IsReadyWith g.F.Folder g.S.Scene.told g.S.Scene.cat l.folder l.question.cat l.pixels.lane;
  names : g.F.Folder.names l.folder ≡ g.F.Folder.names l.fn.folder;
  writes : g.F.Folder.write_calls l.folder ≡ g.F.Folder.write_calls l.fn.folder;
  later : g.F.Folder.faults l.fn.folder ≤ g.F.Folder.faults l.folder;
}
