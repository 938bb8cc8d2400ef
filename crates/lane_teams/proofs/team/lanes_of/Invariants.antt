use Rattle.std.proofs.Common.{◌≡◌, length}
use Rattle.std.specs.List.{All}
use Rattle.nearest_window.specs.Lanes.{room_of}
use Rattle.nearest_window.specs.Right.{IsFresh}
use Rattle.lane_teams.proofs.team.lanes_of.Given as goal

-- the lanes so far
abbrev pub invariant-loop-at : goal.invariant-loop-at
invariant-loop-at g l = record {
  count : length l.lanes.items ≡ l._at;
  fresh : All (IsFresh g.F.Folder) l.lanes.items;
  room : All (λ lane. room_of lane ≡ l.capacity) l.lanes.items;
}
