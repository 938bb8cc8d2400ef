use Rattle.std.proofs.Common.{◌≡◌, ◌≤◌, ◌-◌, take, true}
use Rattle.outside.specs.Streams.{Gets}
use Rattle.lane_teams.specs.Ready.{AreLanesReady}
use Rattle.strip_copies.specs.Copies.{IsRoomFor}
use Rattle.error_lines.specs.Progress.{progress}
use Rattle.output_copies.specs.Copying.{spoken}
use Rattle.output_copies.specs.Filled.{IsFilled}
use Rattle.output_copies.proofs.copying.copy_all.Given as goal

-- the lines so far
abbrev pub invariant-loop-line : goal.invariant-loop-line
invariant-loop-line g l = record {
  below : l.line ≤ l.height;
  ready : AreLanesReady g.F.Folder g.S.Scene.told g.S.Scene.cat l.folder l.translation.cat l.copier.reader.team.lanes.items;
  room : IsRoomFor l.translation.cat l.translation.id l.translation.plan l.copier.reader.columns l.copier.reader.samples.items;
  filled : IsFilled (g.F.Folder.names l.fn.folder) l.translation.cat l.translation.id l.translation.plan l.target l.line l.line 0;
  name : l.target.name ≡ l.fn.target.name;
  names : g.F.Folder.names l.folder ≡ g.F.Folder.names l.fn.folder;
  folder_later : g.F.Folder.faults l.fn.folder ≤ g.F.Folder.faults l.folder;
  still : l.quiet ≡ true → l.out ≡ l.fn.out;
  out_later : g.O.Sink.faults l.fn.out ≤ g.O.Sink.faults l.out;
  told : l.told ≤ 49;
  whole : l.line ≡ l.height → l.told ≡ 49;
  text : Gets (spoken l.quiet (take l.told progress)) (g.O.Sink.got l.fn.out) (g.O.Sink.got l.out);
}

abbrev pub decreases-loop-line : goal.decreases-loop-line
decreases-loop-line g l = l.height - l.line
