use Rattle.std.proofs.Common.{◌≡◌, ◌+◌, ◌-◌, ◌*◌, ◌≤◌, length, map}
use Rattle.band_blocks.specs.Contents.{most_calls}
use Rattle.nearest_window.specs.Lanes.{room_of}
use Rattle.lane_teams.specs.Ready.{AreLanesReady, OnlyReadByViews}
use Rattle.strip_copies.specs.Rows.{AreOf}
use Rattle.strip_copies.proofs.reading.read_runs.Given as goal

-- the lines so far
abbrev pub invariant-loop-line : goal.invariant-loop-line
invariant-loop-line g l = record {
  below : l.line ≤ l.lines.end;
  above : l.lines.first ≤ l.line;
  samples : AreOf (g.F.Folder.names l.fn.folder) l.shown.translation.now.cat l.shown.translation.now.id l.shown.translation.now.plan l.lines.band l.lines.first ((l.line - l.lines.first) * l.shown.translation.now.plan.size.w) l.out;
  ready : AreLanesReady g.F.Folder g.S.Scene.told g.S.Scene.cat l.folder l.shown.translation.now.cat l.team.lanes.items;
  lanes : length l.team.lanes.items ≡ length l.fn.team.lanes.items;
  capacity : map room_of l.team.lanes.items ≡ map room_of l.fn.team.lanes.items;
  only_read : OnlyReadByViews g.F.Folder l.fn.folder l.folder;
  counted : l.fn.team.loads ≤ l.team.loads;
  reads : length l.fn.team.lanes.items ≡ 1 → g.F.Folder.read_calls l.folder ≤ g.F.Folder.read_calls l.fn.folder + most_calls l.shown.translation.now.cat * (l.team.loads - l.fn.team.loads);
}

abbrev pub decreases-loop-line : goal.decreases-loop-line
decreases-loop-line g l = l.lines.end - l.line
