use Rattle.std.proofs.Common.{◌≡◌, ◌≤◌, ◌<◌, ℕ, List, [], Some, length, slice_get}
use Rattle.outside.specs.Outside.{Files}
use Rattle.input_points.specs.Lines.{ended_lines}
use Rattle.input_points.specs.Reading.{start, coming}
use Rattle.catalog.specs.Drivers.{Dataset}
use Rattle.gdal_cli.specs.Input.{IsReading, Answered, HoldsOfGiven, room_of}
use Rattle.gdal_cli.specs.Lanes.{IsReadyWith}
use Rattle.gdal_cli.specs.Location.{point_text}
use Rattle.gdal_cli.proofs.input.answer_pieces.Given as goal

-- the lines that ended in the bytes so far are answered
abbrev pub invariant-pieces : goal.invariant-pieces
invariant-pieces g l = record {
  told : (m : Files) → g.F.Folder.names l.fn.folder ≡ Some m → (d : Dataset) → slice_get l.question.cat l.question.id ≡ Some d → (i : List ℕ) → g.I.Input.left l.fn.input ≡ Some i → HoldsOfGiven (λ given. Answered (point_text m l.question.cat d l.question.asked) start given l.reader [] (g.O.Sink.got l.fn.out) (g.O.Sink.got l.out)) i (g.I.Input.left l.input);
  rest : (i : List ℕ) → g.I.Input.left l.fn.input ≡ Some i → (r : List ℕ) × (g.I.Input.left l.input ≡ Some r);
  reading : IsReading l.reader;
  none : coming ended_lines l.reader [] ≡ [];
  some : 0 < length l.bytes;
  room : length l.points.room.values.items ≡ length l.fn.points.room.values.items;
  ready : IsReadyWith g.F.Folder g.S.Scene.told g.S.Scene.cat l.folder l.question.cat l.points.pixels.lane;
  names : g.F.Folder.names l.folder ≡ g.F.Folder.names l.fn.folder;
  writes : g.F.Folder.write_calls l.folder ≡ g.F.Folder.write_calls l.fn.folder;
  folder_later : g.F.Folder.faults l.fn.folder ≤ g.F.Folder.faults l.folder;
  input_later : g.I.Input.faults l.fn.input ≤ g.I.Input.faults l.input;
  out_later : g.O.Sink.faults l.fn.out ≤ g.O.Sink.faults l.out;
}

abbrev pub decreases-pieces : goal.decreases-pieces
decreases-pieces g l = room_of l.reader
