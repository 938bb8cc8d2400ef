use Rattle.std.proofs.Common.{◌≡◌, ◌≤◌}
use Rattle.lane_teams.specs.Ready.{AreLanesReady}
use Rattle.strip_copies.specs.Copies.{IsRoomFor}
use Rattle.output_copies.specs.Filled.{IsFilled}
use Rattle.output_copies.proofs.copying.copy_strip.Given as goal

-- the bands so far
abbrev pub invariant-loop-band : goal.invariant-loop-band
invariant-loop-band g l = record {
  ready : AreLanesReady g.F.Folder g.S.Scene.told g.S.Scene.cat l.folder l.translation.cat l.copier.reader.team.lanes.items;
  room : IsRoomFor l.translation.cat l.translation.id l.translation.plan l.copier.reader.columns l.copier.reader.samples.items;
  filled : IsFilled (g.F.Folder.names l.fn.folder) l.translation.cat l.translation.id l.translation.plan l.target l.strip.first l.strip.end l.band;
  name : l.target.name ≡ l.fn.target.name;
  names : g.F.Folder.names l.folder ≡ g.F.Folder.names l.fn.folder;
  later : g.F.Folder.faults l.fn.folder ≤ g.F.Folder.faults l.folder;
}
