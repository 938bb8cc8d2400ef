use Rattle.std.proofs.Common.{◌≡◌, ◌+◌, ◌∙◌, ap, length}
use Rattle.std.proofs.lemmas.List.{length_push}
use Rattle.std.proofs.lemmas.List.Elements.{All-push, All-same}
use Rattle.nearest_window.specs.Lanes.{room_of}
use Rattle.nearest_window.specs.Right.{IsFresh}
use Rattle.lane_teams.proofs.team.lanes_of.Goals as goal

pub loop-at-preserved : goal.loop-at-preserved
loop-at-preserved g c =
    let was = c.loop-at.invariant in
    let items = c.in_ok-push.ensures.items in
    record {
      count = ap length items ∙ length_push c.loop-at.lanes.items _ ∙ ap (λ n. n + 1) was.count;
      fresh = All-same (IsFresh g.F.Folder) _ _ items (All-push (IsFresh g.F.Folder) c.loop-at.lanes.items _ was.fresh c.in_ok-lane.ensures.fresh);
      room = All-same (λ lane. room_of lane ≡ c.args.capacity) _ _ items (All-push (λ lane. room_of lane ≡ c.args.capacity) c.loop-at.lanes.items _ was.room (ap room_of c.in_ok-lane.ensures.empty));
    }
