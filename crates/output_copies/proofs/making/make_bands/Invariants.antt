use Rattle.std.proofs.Common.{◌≡◌, ◌≤◌, length}
use Rattle.lane_teams.specs.Ready.{AreLanesReady}
use Rattle.strip_copies.specs.Copies.{IsRoomFor}
use Rattle.output_copies.specs.Packed.{AreMade, IsDesk}
use Rattle.output_copies.proofs.making.make_bands.Given as goal

-- the bands so far
abbrev pub invariant-loop-band : goal.invariant-loop-band
invariant-loop-band g l = record {
  ready : AreLanesReady g.F.Folder g.S.Scene.told g.S.Scene.cat l.desk.view l.task.translation.now.cat l.reader.team.lanes.items;
  room : IsRoomFor l.task.translation.now.cat l.task.translation.now.id l.task.translation.now.plan l.reader.columns l.reader.samples.items;
  desk : IsDesk l.task.translation.now.plan l.task.packing l.task.form l.task.rows l.task.step l.desk.room.items l.desk.block l.desk.records.items l.desk.packed.items;
  made : AreMade g.S.Scene.told l.task.translation.now.cat l.task.translation.now.id l.task.translation.now.plan l.task.packing l.top l.desk.packed.items l.portion.top l.portion.end l.band;
  size : length l.desk.room.items ≡ length l.fn.desk.room.items;
  names : g.F.Folder.names l.desk.view ≡ g.F.Folder.names l.fn.desk.view;
  later : g.F.Folder.faults l.fn.desk.view ≤ g.F.Folder.faults l.desk.view;
}
