use Rattle.std.proofs.Common.{◌≡◌, ◌≤◌, ◌-◌}
use Rattle.lane_teams.specs.Ready.{AreLanesReady}
use Rattle.strip_copies.specs.Copies.{IsRoomFor}
use Rattle.output_copies.specs.Packed.{AreMade, IsDesk}
use Rattle.output_copies.proofs.making.make_portion.Given as goal

-- the lines so far
abbrev pub invariant-loop-line : goal.invariant-loop-line
invariant-loop-line g l = record {
  top : l.portion.top ≤ l.line;
  below : l.line ≤ l.portion.end;
  ready : AreLanesReady g.F.Folder g.S.Scene.told g.S.Scene.cat l.desk.view l.task.translation.now.cat l.reader.team.lanes.items;
  room : IsRoomFor l.task.translation.now.cat l.task.translation.now.id l.task.translation.now.plan l.reader.columns l.reader.samples.items;
  desk : IsDesk l.task.translation.now.plan l.task.packing l.task.form l.task.rows l.task.step l.desk.room.items l.desk.block l.desk.records.items l.desk.packed.items;
  made : AreMade g.S.Scene.told l.task.translation.now.cat l.task.translation.now.id l.task.translation.now.plan l.task.packing l.portion.top l.desk.packed.items l.line l.line 0;
  names : g.F.Folder.names l.desk.view ≡ g.F.Folder.names l.fn.desk.view;
  later : g.F.Folder.faults l.fn.desk.view ≤ g.F.Folder.faults l.desk.view;
}

abbrev pub decreases-loop-line : goal.decreases-loop-line
decreases-loop-line g l = l.portion.end - l.line
