use Rattle.std.proofs.Common.{◌≡◌, ◌≤◌, Some}
use Rattle.std.specs.Prelude.{flat_map}
use Rattle.std.specs.List.{range_with_len}
use Rattle.outside.specs.Outside.{Files}
use Rattle.error_lines.specs.Steps.{applied}
use Rattle.synthetic_rasters.specs.Tiles.{tile_files}
use Rattle.synthetic_files.proofs.publishing.publish_all.Given as goal

-- the files of the tiles so far are published
abbrev pub invariant-loop-tile : goal.invariant-loop-tile
invariant-loop-tile g l = record {
  told : (m : Files) → g.F.Folder.names l.fn.folder ≡ Some m → g.F.Folder.names l.folder ≡ Some (applied (flat_map (tile_files l.fn.side) (range_with_len 0 l.tile)) m);
  side : l.room.side ≡ l.fn.side;
  writes : g.F.Folder.write_calls l.folder ≡ g.F.Folder.write_calls l.fn.folder;
  later : g.F.Folder.faults l.fn.folder ≤ g.F.Folder.faults l.folder;
}
