use Rattle.std.proofs.Common.{◌≡◌, length}
use Rattle.std.specs.List.{All}
use Rattle.lane_teams.specs.Turns.{IsTurnOf}
use Rattle.lane_teams.specs.Ready.{OnlyReadByViews}
use Rattle.lane_teams.proofs.turns.turns_of.Given as goal

abbrev pub invariant-loop-at : goal.invariant-loop-at
invariant-loop-at g l = record {
  only_read : OnlyReadByViews g.F.Folder l.fn.folder l.folder;
  count : length l.turns.items ≡ l._at;
  turns_are : All (IsTurnOf g.F.Folder (g.F.Folder.names l.folder) l.cat) l.turns.items;
}
