use Rattle.std.proofs.Common.{◌≡◌, ◌≤◌, ◌+◌, ◌*◌, length, take, true}
use Rattle.outside.specs.Streams.{Gets}
use Rattle.lane_teams.specs.Ready.{AreLanesReady}
use Rattle.strip_copies.specs.Copies.{IsRoomFor}
use Rattle.error_lines.specs.Progress.{progress}
use Rattle.output_copies.specs.Copying.{spoken}
use Rattle.output_copies.specs.Filled.{IsFilled}
use Rattle.output_copies.specs.Parts.{ArePart, BeginsWith}
use Rattle.output_copies.proofs.Beside.{parts_left}
use Rattle.output_copies.proofs.ahead.copy_ahead.Given as goal

-- the parts so far: those before the last are written, and the last is read
abbrev pub invariant-loop-next : goal.invariant-loop-next
invariant-loop-next g l = record {
  part : ArePart l.translation.plan l.last;
  few : l.last.end ≤ l.last.first + l.rows;
  ready : AreLanesReady g.F.Folder g.S.Scene.told g.S.Scene.cat l.folder l.translation.cat l.copier.reader.team.lanes.items;
  room : IsRoomFor l.translation.cat l.translation.id l.translation.plan l.copier.reader.columns l.copier.reader.samples.items;
  long : l.translation.plan.size.w * l.rows ≤ length l.rooms.ready.items;
  long_next : l.translation.plan.size.w * l.rows ≤ length l.rooms.next.items;
  filled : IsFilled (g.F.Folder.names l.fn.folder) l.translation.cat l.translation.id l.translation.plan l.target l.last.first l.last.end l.last.band;
  read : BeginsWith (g.F.Folder.names l.fn.folder) l.translation.cat l.translation.id l.translation.plan l.last l.rooms.ready.items;
  name : l.target.name ≡ l.fn.target.name;
  names : g.F.Folder.names l.folder ≡ g.F.Folder.names l.fn.folder;
  folder_later : g.F.Folder.faults l.fn.folder ≤ g.F.Folder.faults l.folder;
  still : l.quiet ≡ true → l.out ≡ l.fn.out;
  out_later : g.O.Sink.faults l.fn.out ≤ g.O.Sink.faults l.out;
  told : l.told ≤ 49;
  text : Gets (spoken l.quiet (take l.told progress)) (g.O.Sink.got l.fn.out) (g.O.Sink.got l.out);
}

abbrev pub decreases-loop-next : goal.decreases-loop-next
decreases-loop-next g l = parts_left l.translation.plan l.last
