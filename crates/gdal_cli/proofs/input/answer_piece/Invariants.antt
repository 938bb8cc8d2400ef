use Rattle.std.proofs.Common.{◌≡◌, ◌≤◌, ◌<◌, ◌-◌, [], Some, length, drop, slice_get}
use Rattle.outside.specs.Outside.{Files}
use Rattle.input_points.specs.Lines.{ended_lines}
use Rattle.input_points.specs.Reading.{coming}
use Rattle.catalog.specs.Drivers.{Dataset}
use Rattle.gdal_cli.specs.Input.{IsReading, Answered, room_of}
use Rattle.gdal_cli.specs.Lanes.{IsReadyWith}
use Rattle.gdal_cli.specs.Location.{point_text}
use Rattle.gdal_cli.proofs.input.answer_piece.Given as goal

-- the lines so far are answered, and behind the first bytes less can be taken than before
abbrev pub invariant-loop-at : goal.invariant-loop-at
invariant-loop-at g l = record {
  within : l.at ≤ length l.piece;
  told : (m : Files) → g.F.Folder.names l.fn.folder ≡ Some m → (d : Dataset) → slice_get l.question.cat l.question.id ≡ Some d → Answered (point_text m l.question.cat d l.question.asked) l.fn.reader l.piece l.reader (drop l.at l.piece) (g.O.Sink.got l.fn.out) (g.O.Sink.got l.out);
  reading : IsReading l.reader;
  none : 0 < l.at → coming ended_lines l.reader [] ≡ [];
  most : room_of l.reader ≤ room_of l.fn.reader;
  less : 0 < l.at → room_of l.reader < room_of l.fn.reader;
  room : length l.points.room.values.items ≡ length l.fn.points.room.values.items;
  ready : IsReadyWith g.F.Folder g.S.Scene.told g.S.Scene.cat l.folder l.question.cat l.points.pixels.lane;
  names : g.F.Folder.names l.folder ≡ g.F.Folder.names l.fn.folder;
  writes : g.F.Folder.write_calls l.folder ≡ g.F.Folder.write_calls l.fn.folder;
  folder_later : g.F.Folder.faults l.fn.folder ≤ g.F.Folder.faults l.folder;
  out_later : g.O.Sink.faults l.fn.out ≤ g.O.Sink.faults l.out;
}

abbrev pub decreases-loop-at : goal.decreases-loop-at
decreases-loop-at g l = length l.piece - l.at
